-- Both literals of a variable stand side by side in an ordered clause.
use Rattle.std.proofs.Common.{◌≡◌, ℕ, ◌+◌, ◌*◌, ◌<◌, ◌≤◌, List, [], ◌∷◌, Bool, true, false, not, arith, ap, sym, ◌∙◌, inl, inr, ◌⊎◌, ◌==◌, Some, None}
use Rattle.std.proofs.lemmas.Bool.{or_cases, or_left, or_right, false≢true, eqb-true, eq-eqb}
use Rattle.kb_chain.specs.Literal.{Literal, literal, negated, place_of, same, has}
use Rattle.kb_chain.specs.Clause.{IsOrdered}
use Rattle.kb_chain.specs.Propagation.{HasBothSigns}
use Rattle.kb_chain.specs.Signs.{repeats}
use Rattle.kb_chain.proofs.LiteralLaws.{same-true, has_head, has_tail}
use Rattle.kb_chain.proofs.OrderLaws.{IsBefore-has}

next_is_negated : (x y : Literal) → x.variable ≡ y.variable → place_of x < place_of y → y ≡ negated x
next_is_negated x y e lt = go x.variable y.variable x.positive y.positive e lt
  where
    go : (v w : ℕ) (p q : Bool) → v ≡ w → place_of (literal v p) < place_of (literal w q) → literal w q ≡ negated (literal v p)
    go v w true true e lt = absurd (omega arith)
    go v w true false e lt = ap (λ z. literal z false) (sym e)
    go v w false true e lt = absurd (omega arith)
    go v w false false e lt = absurd (omega arith)

from_repeats : (x : Literal) (xs : List Literal) → IsOrdered (x ∷ xs) → repeats (Some x.variable) xs ≡ true → HasBothSigns (x ∷ xs)
from_repeats x [] h e = absurd (false≢true e)
from_repeats x (y ∷ ys) h e =
    elim (or_cases (x.variable == y.variable) (repeats (Some y.variable) ys) e) [
      | inl s ↦ (let n : y ≡ negated x = next_is_negated x y (eqb-true x.variable y.variable s) h.0.0 in
          (x, has_head x (y ∷ ys), has_tail x (y ∷ ys) (negated x) (ap (λ z. has (y ∷ ys) z) (sym n) ∙ has_head y ys)))
      | inr s ↦ (let r = from_repeats y ys h.1 s in (r.0, has_tail x (y ∷ ys) r.0 r.1, has_tail x (y ∷ ys) (negated r.0) r.2))
    ]

place_bounds : (l : Literal) → (2 * l.variable ≤ place_of l) × (place_of l ≤ 2 * l.variable + 1)
place_bounds l = go l.variable l.positive
  where
    go : (v : ℕ) (p : Bool) → (2 * v ≤ place_of (literal v p)) × (place_of (literal v p) ≤ 2 * v + 1)
    go v true = (omega arith, omega arith)
    go v false = (omega arith, omega arith)

-- another literal of the head's variable is next
near : (x : Literal) (xs : List Literal) (m : Literal) → IsOrdered (x ∷ xs) → has xs m ≡ true → m.variable ≡ x.variable → repeats (Some x.variable) xs ≡ true
near x [] m h i e = absurd (false≢true i)
near x (y ∷ ys) m h i e = or_left _ _ (eq-eqb x.variable y.variable (same_variable (or_cases (same m y) (has ys m) i)))
  where
    below : (place_of y ≡ place_of m) ⊎ (place_of y < place_of m) → x.variable ≡ y.variable
    below s =
        let a = place_bounds x in let b = place_bounds y in let d = place_bounds m in
        let k : place_of x < place_of y = h.0.0 in
        let a0 : 2 * x.variable ≤ place_of x = a.0 in let b0 : 2 * y.variable ≤ place_of y = b.0 in
        let b1 : place_of y ≤ 2 * y.variable + 1 = b.1 in let d1 : place_of m ≤ 2 * m.variable + 1 = d.1 in
        elim s [ inl t ↦ omega arith | inr t ↦ omega arith ]

    same_variable : (same m y ≡ true) ⊎ (has ys m ≡ true) → x.variable ≡ y.variable
    same_variable (inl s) = below (inl (sym (eqb-true (place_of m) (place_of y) s)))
    same_variable (inr s) = below (inr (IsBefore-has y ys h.1.0 m s))

not_both : (x l : Literal) → same l x ≡ true → same (negated l) x ≡ true → ⊥
not_both x l s t =
    let a : place_of l ≡ place_of x = eqb-true (place_of l) (place_of x) s in
    let b : place_of (negated l) ≡ place_of x = eqb-true (place_of (negated l)) (place_of x) t in
    go l.variable l.positive (a ∙ sym b)
  where
    go : (v : ℕ) (p : Bool) → place_of (literal v p) ≡ place_of (literal v (not p)) → ⊥
    go v true e = absurd (omega arith)
    go v false e = absurd (omega arith)

to_repeats : (x : Literal) (xs : List Literal) → IsOrdered (x ∷ xs) → HasBothSigns (x ∷ xs) → repeats (Some x.variable) xs ≡ true
to_repeats x [] h b =
    absurd (elim (or_cases (same b.0 x) false b.1) [
      | inl s ↦ elim (or_cases (same (negated b.0) x) false b.2) [ inl t ↦ not_both x b.0 s t | inr t ↦ false≢true t ]
      | inr s ↦ false≢true s
    ])
to_repeats x (y ∷ ys) h b =
    elim (or_cases (same b.0 x) (has (y ∷ ys) b.0) b.1) [
      | inl s ↦ elim (or_cases (same (negated b.0) x) (has (y ∷ ys) (negated b.0)) b.2) [
        | inl t ↦ absurd (not_both x b.0 s t)
        | inr t ↦ near x (y ∷ ys) (negated b.0) h t (ap (λ z. z.variable) (same-true b.0 x s))
      ]
      | inr s ↦ elim (or_cases (same (negated b.0) x) (has (y ∷ ys) (negated b.0)) b.2) [
        | inl t ↦ near x (y ∷ ys) b.0 h s (ap (λ z. z.variable) (same-true (negated b.0) x t))
        | inr t ↦ or_right _ _ (to_repeats y ys h.1 (b.0, s, t))
      ]
    ]

pub HasBothSigns-from : (clause : List Literal) → IsOrdered clause → repeats None clause ≡ true → HasBothSigns clause
HasBothSigns-from [] h e = absurd (false≢true e)
HasBothSigns-from (x ∷ xs) h e = from_repeats x xs h e

pub repeats-from : (clause : List Literal) → IsOrdered clause → HasBothSigns clause → repeats None clause ≡ true
repeats-from [] h b = absurd (false≢true b.1)
repeats-from (x ∷ xs) h b = to_repeats x xs h b
