-- The least set that is closed under unit propagation: there is one, and each closed set that negates no clause bounds what it reaches.
use Rattle.std.proofs.Common.{◌≡◌, ℕ, ◌+◌, ◌<◌, ◌≤◌, List, [], ◌∷◌, ◌++◌, Bool, true, false, ◌||◌, cond, arith, refl, ap, sym, ◌∙◌, inl, inr, ◌⊎◌, map, zero, suc, Some, slice_get}
use Rattle.std.proofs.lemmas.Bool.{or_cases, or_left, or_right, cases_Bool, false≢true, and_parts, false_from_ne_true}
use Rattle.kb_chain.specs.Literal.{Literal, negated, same, has}
use Rattle.kb_chain.specs.Propagation.{others, all_negated, IsClosed, Includes, IsLeast, NegatesSome, UnitRefutes, Misses}
use Rattle.kb_chain.proofs.LiteralLaws.{same-true, same_refl, has_head, has_tail, has-append}
use Rattle.kb_chain.proofs.PropagationLaws.{all_negated_more}

-- a literal that is due: a clause has it, its others are negated, and it is not there yet
pub record IsDue (clauses : List (List Literal)) (ls : List Literal) (l : Literal) : Type 0 where
  pub number : ℕ
  pub clause : List Literal
  pub is : slice_get clauses number ≡ Some clause
  pub inside : has clause l ≡ true
  pub negated_others : all_negated (has ls) (others l clause) ≡ true
  pub absent : has ls l ≡ false

-- a literal of the rest of a clause is due, or none is
due_in_clause : (ls clause rest : List Literal)
    → ((l : Literal) × (has rest l ≡ true) × (all_negated (has ls) (others l clause) ≡ true) × (has ls l ≡ false))
    ⊎ ((l : Literal) → has rest l ≡ true → all_negated (has ls) (others l clause) ≡ true → has ls l ≡ true)
due_in_clause ls clause [] = inr (λ l e. absurd (false≢true e))
due_in_clause ls clause (x ∷ xs) =
    elim (due_in_clause ls clause xs) [
      | inl d ↦ inl (d.0, has_tail x xs d.0 d.1, d.2, d.3)
      | inr f ↦ elim (cases_Bool (has ls x)) [
        | inl t ↦ inr (λ l e n. (elim (or_cases (same l x) (has xs l) e) [
          | inl s ↦ ap (λ z. has ls z) (same-true l x s) ∙ t
          | inr s ↦ f l s n
        ]))
        | inr a ↦ elim (cases_Bool (all_negated (has ls) (others x clause))) [
          | inl n ↦ inl (x, has_head x xs, n, a)
          | inr n ↦ inr (λ l e m. (elim (or_cases (same l x) (has xs l) e) [
            | inl s ↦ absurd (false≢true (sym n ∙ (ap (λ z. all_negated (has ls) (others z clause)) (sym (same-true l x s)) ∙ m)))
            | inr s ↦ f l s m
          ]))
        ]
      ]
    ]

due_in : (clauses : List (List Literal)) (ls : List Literal) → ((l : Literal) × IsDue clauses ls l) ⊎ IsClosed clauses (has ls)
due_in [] ls = inr (λ k clause e. cc)
due_in (c ∷ cs) ls =
    elim (due_in_clause ls c c) [
      | inl d ↦ inl (d.0, record { number = zero; clause = c; is = refl; inside = d.1; negated_others = d.2; absent = d.3 })
      | inr f ↦ elim (due_in cs ls) [
        | inl d ↦ inl (
          d.0,
          record {
            number = suc d.1.number;
            clause = d.1.clause;
            is = d.1.is;
            inside = d.1.inside;
            negated_others = d.1.negated_others;
            absent = d.1.absent;
          },
        )
        | inr g ↦ inr (closed f g)
      ]
    ]
  where
    closed : ((l : Literal) → has c l ≡ true → all_negated (has ls) (others l c) ≡ true → has ls l ≡ true)
        → IsClosed cs (has ls) → IsClosed (c ∷ cs) (has ls)
    closed f g zero clause e l i n =
        let s : c ≡ clause = cc in
        f l (ap (λ z. has z l) s ∙ i) (ap (λ z. all_negated (has ls) (others l z)) s ∙ n)
    closed f g (suc k) clause e l i n = g k clause e l i n

-- the literals of all clauses
literals_of : List (List Literal) → List Literal
literals_of [] = []
literals_of (c ∷ cs) = c ++ literals_of cs

has-literals_of : (clauses : List (List Literal)) (k : ℕ) (clause : List Literal) (l : Literal) → slice_get clauses k ≡ Some clause
    → has clause l ≡ true → has (literals_of clauses) l ≡ true
unfolding literals_of
has-literals_of [] k clause l e i = cc
has-literals_of (c ∷ cs) zero clause l e i =
    let s : c ≡ clause = cc in has-append c (literals_of cs) l ∙ or_left _ _ (ap (λ z. has z l) s ∙ i)
has-literals_of (c ∷ cs) (suc k) clause l e i = has-append c (literals_of cs) l ∙ or_right _ _ (has-literals_of cs k clause l e i)

-- how many literals of a list are not among others
missing : List Literal → List Literal → ℕ
missing [] ls = 0
missing (x ∷ xs) ls = cond (has ls x) 0 1 + missing xs ls

missing_more : (xs ls : List Literal) (l : Literal) → missing xs (l ∷ ls) ≤ missing xs ls
unfolding missing
missing_more [] ls l = omega arith
missing_more (x ∷ xs) ls l = go (same x l) (has ls x) (missing_more xs ls l)
  where
    go : (a b : Bool) → missing xs (l ∷ ls) ≤ missing xs ls → cond (a || b) 0 1 + missing xs (l ∷ ls) ≤ cond b 0 1 + missing xs ls
    go true true h = omega arith
    go true false h = omega arith
    go false true h = omega arith
    go false false h = omega arith

missing_less : (xs ls : List Literal) (l : Literal) → has xs l ≡ true → has ls l ≡ false → missing xs (l ∷ ls) < missing xs ls
unfolding missing
missing_less [] ls l e a = absurd (false≢true e)
missing_less (x ∷ xs) ls l e a =
    go (same x l) (has ls x) refl refl (or_cases (same l x) (has xs l) e) (missing_more xs ls l) (λ i. missing_less xs ls l i a)
  where
    go : (p q : Bool) → same x l ≡ p → has ls x ≡ q → (same l x ≡ true) ⊎ (has xs l ≡ true) → missing xs (l ∷ ls) ≤ missing xs ls
        → (has xs l ≡ true → missing xs (l ∷ ls) < missing xs ls) → cond (p || q) 0 1 + missing xs (l ∷ ls) < cond q 0 1 + missing xs ls
    go true true p q i le rec = absurd (false≢true (sym a ∙ (ap (λ z. has ls z) (sym (same-true x l p)) ∙ q)))
    go true false p q i le rec = omega arith
    go false true p q (inl s) le rec = absurd (false≢true (sym a ∙ (ap (λ z. has ls z) (same-true l x s) ∙ q)))
    go false true p q (inr s) le rec = let h : missing xs (l ∷ ls) < missing xs ls = rec s in omega arith
    go false false p q (inl s) le rec = absurd (false≢true (sym p ∙ (ap (λ z. same z l) (sym (same-true l x s)) ∙ same_refl l)))
    go false false p q (inr s) le rec = let h : missing xs (l ∷ ls) < missing xs ls = rec s in omega arith

-- a due literal is in each closed set that has the literals so far
due_kept : (clauses : List (List Literal)) (first ls : List Literal) (l : Literal) → IsDue clauses ls l
    → ((other : Literal → Bool) → Includes other first → IsClosed clauses other → Includes other ls)
    → (other : Literal → Bool) → Includes other first → IsClosed clauses other → Includes other (l ∷ ls)
due_kept clauses first ls l d least other i c m e =
    elim (or_cases (same m l) (has ls m) e) [
      | inl s ↦ ap other (same-true m l s) ∙ c d.number d.clause d.is l d.inside
          (all_negated_more (has ls) other (others l d.clause) (least other i c) d.negated_others)
      | inr s ↦ least other i c m s
    ]

-- more and more literals that each closed set has, until none is due
grown : (clauses : List (List Literal)) (first : List Literal) (bound : ℕ) (ls : List Literal) → missing (literals_of clauses) ls ≤ bound
    → Includes (has ls) first
    → ((other : Literal → Bool) → Includes other first → IsClosed clauses other → Includes other ls)
    → (set : Literal → Bool) × IsLeast clauses first set
grown clauses first zero ls m includes least = elim (due_in clauses ls) [
  | inr closed ↦ (has ls, record { includes = includes; closed = closed; least = λ other i c. least other i c })
  | inl d ↦
      (let less : missing (literals_of clauses) (d.0 ∷ ls) < missing (literals_of clauses) ls =
      missing_less (literals_of clauses) ls d.0 (has-literals_of clauses d.1.number d.1.clause d.0 d.1.is d.1.inside) d.1.absent in
      absurd (omega arith))
]
grown clauses first (suc bound) ls m includes least = elim (due_in clauses ls) [
  | inr closed ↦ (has ls, record { includes = includes; closed = closed; least = λ other i c. least other i c })
  | inl d ↦
      (let less : missing (literals_of clauses) (d.0 ∷ ls) < missing (literals_of clauses) ls =
      missing_less (literals_of clauses) ls d.0 (has-literals_of clauses d.1.number d.1.clause d.0 d.1.is d.1.inside) d.1.absent in
      grown clauses first bound (d.0 ∷ ls) (omega arith) (λ l e. has_tail d.0 ls l (includes l e)) (due_kept clauses first ls d.0 d.1 least))
]

pub least_exists : (clauses : List (List Literal)) (first : List Literal) → (set : Literal → Bool) × IsLeast clauses first set
least_exists clauses first =
    grown clauses first (missing (literals_of clauses) first) first (omega arith) (λ l e. e) (λ other i c. i)

-- a set that negates the literals includes their negations
Includes-negated : (set : Literal → Bool) (ls : List Literal) → all_negated set ls ≡ true → Includes set (map negated ls)
Includes-negated set [] h l e = absurd (false≢true e)
Includes-negated set (x ∷ xs) h l e =
    let p = and_parts _ _ h in
    elim (or_cases (same l (negated x)) (has (map negated xs) l) e) [
      | inl s ↦ ap set (same-true l (negated x) s) ∙ p.0
      | inr s ↦ Includes-negated set xs p.1 l s
    ]

-- a closed set that negates the clause's other literals and no whole clause, and lacks this one: the clause misses it
pub Misses-by : (clauses : List (List Literal)) (clause : List Literal) (l : Literal) (set : Literal → Bool) → IsClosed clauses set
    → (NegatesSome clauses set → ⊥) → all_negated set (others l clause) ≡ true → set l ≡ false → Misses clauses clause l
Misses-by clauses clause l set closed quiet negates lacks =
    let found = least_exists clauses (map negated (others l clause)) in
    let part = found.1.least set (Includes-negated set (others l clause) negates) closed in
    record {
      set = found.0;
      reached = found.1;
      absent = false_from_ne_true _ (λ e. false≢true (sym lacks ∙ part l e));
      consistent = λ n. quiet (n.0, n.1, n.2, all_negated_more found.0 set n.1 part n.3);
    }

-- where a closed set negates no clause, unit propagation alone refutes nothing
pub not_unit_refuted : (clauses : List (List Literal)) (set : Literal → Bool) → IsClosed clauses set → (NegatesSome clauses set → ⊥)
    → UnitRefutes clauses → ⊥
not_unit_refuted clauses set closed quiet refuted =
    let part = refuted.1.least set (λ l e. absurd (false≢true e)) closed in
    let n = refuted.2 in
    quiet (n.0, n.1, n.2, all_negated_more refuted.0 set n.1 part n.3)
