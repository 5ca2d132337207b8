-- Chains, step by step, and the variables of what they give.
use Rattle.std.proofs.Common.{◌≡◌, ℕ, ◌+◌, ◌*◌, ◌<◌, ◌≤◌, List, [], ◌∷◌, ◌++◌, Bool, true, false, not, arith, refl, ap, sym, ◌∙◌, inl, inr, ◌⊎◌, subst, Option, Some, None, option_and_then, slice_get, fold, zero, suc, length, get_or, drop, ◌==◌, add-one, drop-cons}
use Rattle.std.proofs.lemmas.Bool.{and_parts, and_from, or_cases, leb-true, le-leb, false≢true}
use Rattle.std.proofs.lemmas.Option.{cond_some, option_and_then_some}
use Rattle.kb_chain.specs.Literal.{Literal, literal, place_of, same, has}
use Rattle.kb_chain.specs.Clause.{clause_of, without, are_opposite, resolvent_of}
use Rattle.kb_chain.specs.Cnf.{IsWithin, AllWithin}
use Rattle.kb_chain.specs.Chains.{resolved, entry_of}
use Rattle.kb_chain.specs.Working.{AreWithin}
use Rattle.kb_chain.specs.declared.log.Chain.{Chain}
use Rattle.kb_chain.proofs.LiteralLaws.{same-true, has_head, has_tail, has-filter, has-append}
use Rattle.kb_chain.proofs.OrderLaws.{has-clause_of}
use Rattle.kb_chain.proofs.Soundness.{fold_none}

pub resolved_no_side : (clauses : List (List Literal)) (c : List Literal) (s : ℕ × ℕ) → slice_get clauses s.1 ≡ None → resolved clauses (Some c) s ≡ None
unfolding resolved
resolved_no_side clauses c s e = ap (λ o. option_and_then (λ side. resolvent_of c side s.0) o) e

pub resolved_with : (clauses : List (List Literal)) (c : List Literal) (s : ℕ × ℕ) (side : List Literal) → slice_get clauses s.1 ≡ Some side
    → resolved clauses (Some c) s ≡ resolvent_of c side s.0
unfolding resolved
resolved_with clauses c s side e = ap (λ o. option_and_then (λ side. resolvent_of c side s.0) o) e

-- the next step of a chain
pub fold_step : (clauses : List (List Literal)) (c : List Literal) (steps : List (ℕ × ℕ)) (i : ℕ) (d : ℕ × ℕ) (next : Option (List Literal)) → i < length steps
    → resolved clauses (Some c) (get_or steps i d) ≡ next
    → fold (resolved clauses) (Some c) (drop i steps) ≡ fold (resolved clauses) next (drop (i + 1) steps)
fold_step clauses c steps i d next lt e =
    ap (λ z. fold (resolved clauses) (Some c) z) (drop-cons steps i d lt)
    ∙ (ap (λ o. fold (resolved clauses) o (drop (suc i) steps)) e ∙ ap (λ k. fold (resolved clauses) next (drop k steps)) (sym (add-one i)))

pub fold_stops : (clauses : List (List Literal)) (c : List Literal) (steps : List (ℕ × ℕ)) (i : ℕ) (d : ℕ × ℕ) → i < length steps
    → resolved clauses (Some c) (get_or steps i d) ≡ None → fold (resolved clauses) (Some c) (drop i steps) ≡ None
fold_stops clauses c steps i d lt e = fold_step clauses c steps i d None lt e ∙ fold_none clauses (drop (i + 1) steps)

pub IsWithin-has : (n : ℕ) (clause : List Literal) → IsWithin n clause → (l : Literal) → has clause l ≡ true → l.variable ≤ n
IsWithin-has n [] h l e = absurd (false≢true e)
IsWithin-has n (x ∷ xs) h l e =
    let p = and_parts _ _ h in
    elim (or_cases (same l x) (has xs l) e) [
      | inl s ↦ (let below : x.variable ≤ n = leb-true x.variable n p.0 in let k : l.variable ≡ x.variable = ap (λ z. z.variable) (same-true l x s) in omega arith)
      | inr s ↦ IsWithin-has n xs p.1 l s
    ]

pub IsWithin-from : (n : ℕ) (clause : List Literal) → ((l : Literal) → has clause l ≡ true → l.variable ≤ n) → IsWithin n clause
IsWithin-from n [] f = refl
IsWithin-from n (x ∷ xs) f = and_from _ _ (le-leb x.variable n (f x (has_head x xs))) (IsWithin-from n xs (λ l e. f l (has_tail x xs l e)))

place_below : (l : Literal) (n : ℕ) → l.variable ≤ n → place_of l < 2 * n + 2
place_below l n le = go l.variable l.positive le
  where
    go : (v : ℕ) (p : Bool) → v ≤ n → place_of (literal v p) < 2 * n + 2
    go v true le = omega arith
    go v false le = omega arith

-- a clause within variables has places in their table
pub AreWithin-from : (n places : ℕ) (clause : List Literal) → places ≡ 2 * n + 2 → IsWithin n clause → AreWithin places clause
AreWithin-from n places clause e h l k = rw e (place_below l n (IsWithin-has n clause h l k))

resolvent_within : (n : ℕ) (left right : List Literal) (pivot : ℕ) (clause : List Literal) → resolvent_of left right pivot ≡ Some clause
    → IsWithin n left → IsWithin n right → IsWithin n clause
resolvent_within n left right pivot clause e h k =
    let parts = cond_some (are_opposite left right pivot) (clause_of (without pivot (left ++ right))) clause e in
    subst (λ z. IsWithin n z) parts.1 (IsWithin-from n (clause_of (without pivot (left ++ right))) (λ l f.
    at l (or_cases (has left l) (has right l) (sym (has-append left right l)
    ∙ (and_parts _ _ (sym (has-filter (λ m. not (m.variable == pivot)) (left ++ right) l) ∙ (sym (has-clause_of (without pivot (left ++ right)) l) ∙ f))).0))))
  where
    at : (l : Literal) → (has left l ≡ true) ⊎ (has right l ≡ true) → l.variable ≤ n
    at l (inl s) = IsWithin-has n left h l s
    at l (inr s) = IsWithin-has n right k l s

pub AllWithin-get : (n : ℕ) (clauses : List (List Literal)) (k : ℕ) (clause : List Literal) → slice_get clauses k ≡ Some clause → AllWithin n clauses → IsWithin n clause
AllWithin-get n [] k clause e h = cc
AllWithin-get n (c ∷ cs) zero clause e h = let s : c ≡ clause = cc in subst (λ z. IsWithin n z) s (and_parts _ _ h).0
AllWithin-get n (c ∷ cs) (suc k) clause e h = AllWithin-get n cs k clause e (and_parts _ _ h).1

steps_within : (n : ℕ) (clauses : List (List Literal)) → AllWithin n clauses → (steps : List (ℕ × ℕ)) (start clause : List Literal)
    → fold (resolved clauses) (Some start) steps ≡ Some clause → IsWithin n start → IsWithin n clause
unfolding resolved
steps_within n clauses h [] start clause e k = let s : start ≡ clause = cc in subst (λ z. IsWithin n z) s k
steps_within n clauses h (s ∷ ss) start clause e k =
    go (resolved clauses (Some start) s) refl e (λ next. steps_within n clauses h ss next clause)
  where
    go : (o : Option (List Literal)) → resolved clauses (Some start) s ≡ o → fold (resolved clauses) o ss ≡ Some clause
        → ((next : List Literal) → fold (resolved clauses) (Some next) ss ≡ Some clause → IsWithin n next → IsWithin n clause)
        → IsWithin n clause
    go None d f rec = let w : None ≡ Some clause = sym (fold_none clauses ss) ∙ f in cc
    go (Some next) d f rec =
        rec next f (option_and_then_some (λ side. resolvent_of start side s.0) (slice_get clauses s.1) next d
        (λ side g r. resolvent_within n start side s.0 next r k (AllWithin-get n clauses s.1 side g h)))

pub entry_within : (n : ℕ) (clauses : List (List Literal)) (chain : Chain) (clause : List Literal) → AllWithin n clauses
    → entry_of clauses chain ≡ Some clause → IsWithin n clause
entry_within n clauses chain clause h e = go (slice_get clauses chain.start) refl e
  where
    go : (o : Option (List Literal)) → slice_get clauses chain.start ≡ o → fold (resolved clauses) o chain.steps ≡ Some clause → IsWithin n clause
    go None d f = let w : None ≡ Some clause = sym (fold_none clauses chain.steps) ∙ f in cc
    go (Some start) d f = steps_within n clauses h chain.steps start clause f (AllWithin-get n clauses chain.start start d h)
