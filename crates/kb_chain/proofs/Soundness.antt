-- Resolution is sound: what satisfies the clauses satisfies what a log derives from them.
use Rattle.std.proofs.Common.{◌≡◌, ℕ, ◌==◌, List, [], ◌∷◌, ◌++◌, Bool, true, false, not, ◌||◌, refl, ap, sym, ◌∙◌, inl, inr, subst, Option, Some, None, slice_get, fold, zero, suc}
use Rattle.std.proofs.lemmas.Bool.{and_parts, and_from, or_cases, or_left, or_right, cases_Bool, eqb-true, false≢true, true≢false, not-true, not_from_false}
use Rattle.std.proofs.lemmas.Option.{cond_some, option_and_then_some}
use Rattle.kb_chain.specs.Literal.{Literal, literal, same, has, is_true}
use Rattle.kb_chain.specs.Clause.{clause_of, without, has_only, are_opposite, resolvent_of, clause_true, Satisfies}
use Rattle.kb_chain.specs.Chains.{resolved, entry_of, derived}
use Rattle.kb_chain.specs.declared.log.Chain.{Chain}
use Rattle.kb_chain.proofs.LiteralLaws.{same-true, has_head, has_tail, has-filter, has-append}
use Rattle.kb_chain.proofs.OrderLaws.{has-clause_of}

-- a true literal makes its clause true, and a true clause has one
pub clause_true-from : (v : ℕ → Bool) (clause : List Literal) (l : Literal) → has clause l ≡ true → is_true v l ≡ true → clause_true v clause ≡ true
clause_true-from v [] l e h = absurd (false≢true e)
clause_true-from v (x ∷ xs) l e h =
    elim (or_cases (same l x) (has xs l) e) [
      | inl s ↦ or_left _ _ (sym (ap (λ m. is_true v m) (same-true l x s)) ∙ h)
      | inr s ↦ or_right _ _ (clause_true-from v xs l s h)
    ]

pub true_literal : (v : ℕ → Bool) (clause : List Literal) → clause_true v clause ≡ true → (l : Literal) × (has clause l ≡ true) × (is_true v l ≡ true)
true_literal v [] e = absurd (false≢true e)
true_literal v (x ∷ xs) e =
    elim (or_cases (is_true v x) (clause_true v xs) e) [
      | inl s ↦ (x, (has_head x xs), s)
      | inr s ↦ (let r = true_literal v xs s in (r.0, has_tail x xs r.0 r.1, r.2))
    ]

-- a literal of either clause is in the resolvent, if its variable is not the pivot
in_resolvent : (left right : List Literal) (pivot : ℕ) (l : Literal) → (has left l || has right l) ≡ true → (l.variable == pivot) ≡ false
    → has (clause_of (without pivot (left ++ right))) l ≡ true
in_resolvent left right pivot l e ne =
    has-clause_of (without pivot (left ++ right)) l
    ∙ (has-filter (λ m. not (m.variable == pivot)) (left ++ right) l
    ∙ and_from _ _ (has-append left right l ∙ e) (not_from_false _ ne))

-- the pivot's literal in a clause that has only one of the two is that one
sign_of : (clause : List Literal) (pivot : ℕ) (sign : Bool) (l : Literal) → has_only clause (literal pivot sign) ≡ true → has clause l ≡ true
    → l.variable ≡ pivot → l.positive ≡ sign
sign_of clause pivot sign l only e v = go l.variable l.positive sign v only e
  where
    go : (w : ℕ) (p s : Bool) → w ≡ pivot → has_only clause (literal pivot s) ≡ true → has clause (literal w p) ≡ true → p ≡ s
    go w true true k o h = refl
    go w false false k o h = refl
    go w true false k o h =
        absurd (false≢true (sym (not-true _ (and_parts _ _ o).1) ∙ (ap (λ z. has clause (literal z true)) (sym k) ∙ h)))
    go w false true k o h =
        absurd (false≢true (sym (not-true _ (and_parts _ _ o).1) ∙ (ap (λ z. has clause (literal z false)) (sym k) ∙ h)))

-- the values of one variable's literals of different signs
is_true_apart : (v : ℕ → Bool) (a b : Literal) (s : Bool) → a.variable ≡ b.variable → a.positive ≡ s → b.positive ≡ not s
    → is_true v a ≡ true → is_true v b ≡ true → ⊥
is_true_apart v a b s e p q h k = go a.variable b.variable a.positive b.positive s e p q h k
  where
    go : (x y : ℕ) (i j s : Bool) → x ≡ y → i ≡ s → j ≡ not s → is_true v (literal x i) ≡ true → is_true v (literal y j) ≡ true → ⊥
    go x y true true true e p q h k = true≢false q
    go x y true true false e p q h k = true≢false p
    go x y false false true e p q h k = false≢true p
    go x y false false false e p q h k = false≢true q
    go x y true false s e p q h k = false≢true (sym (not-true (v y) k) ∙ (ap v (sym e) ∙ h))
    go x y false true s e p q h k = false≢true (sym (not-true (v x) h) ∙ (ap v e ∙ k))

opposite_true : (v : ℕ → Bool) (left right : List Literal) (pivot : ℕ) (s : Bool)
    → has_only left (literal pivot s) ≡ true → has_only right (literal pivot (not s)) ≡ true
    → clause_true v left ≡ true → clause_true v right ≡ true → clause_true v (clause_of (without pivot (left ++ right))) ≡ true
opposite_true v left right pivot s only_left only_right h k = go (true_literal v left h) (true_literal v right k)
  where
    go : (l : Literal) × (has left l ≡ true) × (is_true v l ≡ true) → (l : Literal) × (has right l ≡ true) × (is_true v l ≡ true)
        → clause_true v (clause_of (without pivot (left ++ right))) ≡ true
    go a b =
        elim (cases_Bool (a.0.variable == pivot)) [
          | inr ne ↦ clause_true-from v _ a.0 (in_resolvent left right pivot a.0 (or_left _ _ a.1) ne) a.2
          | inl e ↦ elim (cases_Bool (b.0.variable == pivot)) [
            | inr ne ↦ clause_true-from v _ b.0 (in_resolvent left right pivot b.0 (or_right _ _ b.1) ne) b.2
            | inl f ↦
                (let p : a.0.variable ≡ pivot = eqb-true a.0.variable pivot e in
                let q : b.0.variable ≡ pivot = eqb-true b.0.variable pivot f in
                absurd (is_true_apart v a.0 b.0 s (p ∙ sym q) (sign_of left pivot s a.0 only_left a.1 p)
                (sign_of right pivot (not s) b.0 only_right b.1 q) a.2 b.2))
          ]
        ]

pub resolvent_true : (v : ℕ → Bool) (left right : List Literal) (pivot : ℕ) (clause : List Literal) → resolvent_of left right pivot ≡ Some clause
    → clause_true v left ≡ true → clause_true v right ≡ true → clause_true v clause ≡ true
resolvent_true v left right pivot clause e h k =
    let parts = cond_some (are_opposite left right pivot) (clause_of (without pivot (left ++ right))) clause e in
    ap (λ c. clause_true v c) (sym parts.1)
    ∙ elim (or_cases _ _ parts.0) [
      | inl o ↦ (let p = and_parts _ _ o in opposite_true v left right pivot true p.0 p.1 h k)
      | inr o ↦ (let p = and_parts _ _ o in opposite_true v left right pivot false p.0 p.1 h k)
    ]

pub Satisfies-get : (v : ℕ → Bool) (clauses : List (List Literal)) (k : ℕ) (clause : List Literal) → slice_get clauses k ≡ Some clause
    → Satisfies v clauses → clause_true v clause ≡ true
Satisfies-get v [] k clause e h = cc
Satisfies-get v (c ∷ cs) zero clause e h = let s : c ≡ clause = cc in ap (λ x. clause_true v x) (sym s) ∙ h.0
Satisfies-get v (c ∷ cs) (suc k) clause e h = Satisfies-get v cs k clause e h.1

pub Satisfies-push : (v : ℕ → Bool) (clauses : List (List Literal)) (clause : List Literal) → Satisfies v clauses → clause_true v clause ≡ true
    → Satisfies v (clauses ++ clause ∷ [])
Satisfies-push v [] clause h k = (k, tt)
Satisfies-push v (c ∷ cs) clause h k = (h.0, Satisfies-push v cs clause h.1 k)

pub Satisfies-last : (v : ℕ → Bool) (clauses : List (List Literal)) (clause : List Literal) → Satisfies v (clauses ++ clause ∷ []) → clause_true v clause ≡ true
Satisfies-last v [] clause h = h.0
Satisfies-last v (c ∷ cs) clause h = Satisfies-last v cs clause h.1

-- no steps make a clause of none
pub fold_none : (clauses : List (List Literal)) (steps : List (ℕ × ℕ)) → fold (resolved clauses) None steps ≡ None
unfolding resolved
fold_none clauses [] = refl
fold_none clauses (s ∷ ss) = fold_none clauses ss

steps_true : (v : ℕ → Bool) (clauses : List (List Literal)) → Satisfies v clauses → (steps : List (ℕ × ℕ)) (start clause : List Literal)
    → fold (resolved clauses) (Some start) steps ≡ Some clause → clause_true v start ≡ true → clause_true v clause ≡ true
unfolding resolved
steps_true v clauses h [] start clause e k = let s : start ≡ clause = cc in ap (λ x. clause_true v x) (sym s) ∙ k
steps_true v clauses h (s ∷ ss) start clause e k =
    go (resolved clauses (Some start) s) refl e (λ next. steps_true v clauses h ss next clause)
  where
    go : (o : Option (List Literal)) → resolved clauses (Some start) s ≡ o → fold (resolved clauses) o ss ≡ Some clause
        → ((next : List Literal) → fold (resolved clauses) (Some next) ss ≡ Some clause → clause_true v next ≡ true → clause_true v clause ≡ true)
        → clause_true v clause ≡ true
    go None d f rec = let n : None ≡ Some clause = sym (fold_none clauses ss) ∙ f in cc
    go (Some next) d f rec =
        rec next f (option_and_then_some (λ side. resolvent_of start side s.0) (slice_get clauses s.1) next d
        (λ side g r. resolvent_true v start side s.0 next r k (Satisfies-get v clauses s.1 side g h)))

pub entry_true : (v : ℕ → Bool) (clauses : List (List Literal)) (chain : Chain) (clause : List Literal) → Satisfies v clauses
    → entry_of clauses chain ≡ Some clause → clause_true v clause ≡ true
entry_true v clauses chain clause h e = go (slice_get clauses chain.start) refl e
  where
    go : (o : Option (List Literal)) → slice_get clauses chain.start ≡ o → fold (resolved clauses) o chain.steps ≡ Some clause → clause_true v clause ≡ true
    go None d f = let n : None ≡ Some clause = sym (fold_none clauses chain.steps) ∙ f in cc
    go (Some start) d f = steps_true v clauses h chain.steps start clause f (Satisfies-get v clauses chain.start start d h)

pub derived_true : (v : ℕ → Bool) (entries : List Chain) (clauses all : List (List Literal)) → Satisfies v clauses
    → derived clauses entries ≡ Some all → Satisfies v all
derived_true v [] clauses all h e = let s : clauses ≡ all = cc in subst (λ x. Satisfies v x) s h
derived_true v (entry ∷ entries) clauses all h e =
    option_and_then_some (λ clause. derived (clauses ++ clause ∷ []) entries) (entry_of clauses entry) all e
    (λ clause d f. derived_true v entries (clauses ++ clause ∷ []) all (Satisfies-push v clauses clause h (entry_true v clauses entry clause h d)) f)
