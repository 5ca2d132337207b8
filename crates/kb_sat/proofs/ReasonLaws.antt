-- The reasons of a trail, as stored rows.
use Rattle.std.proofs.Common.{◌≡◌, ℕ, ◌-◌, ◌<◌, ◌≤◌, ◌==◌, List, [], ◌∷◌, ◌++◌, true, false, not, arith, refl, ap, sym, ◌∙◌, inl, inr, subst, length, get_or, take, None, Some, slice_get}
use Rattle.std.proofs.lemmas.Bool.{false≢true, cases_eq, and_from, false_from_ne_true, eq-eqb, eqb-true}
use Rattle.std.proofs.Math.Seq.{take-append_seam}
use Rattle.kb_chain.specs.Literal.{Literal, has, same, negated}
use Rattle.kb_chain.specs.Propagation.{others}
use Rattle.kb_chain.proofs.LiteralLaws.{same-true}
use Rattle.kb_chain.proofs.PropagationLaws.{all_negated-at, has-others}
use Rattle.kb_propagate.specs.Trail.{Assigned, IsTrail, level_start, level_zero}
use Rattle.kb_propagate.specs.Store.{IsStored, IsJustified}
use Rattle.kb_sat.specs.Analysis.{IsLevels, AreFalseBefore}
use Rattle.kb_sat.specs.declared.analysis.Levels.{Levels}
use Rattle.kb_propagate.proofs.Places.{at_inside}

pub front : {X : Type 0} (n : ℕ) (xs ys : List X) → n ≡ length xs → take n (xs ++ ys) ≡ xs
front n xs ys e = ap (λ k. take k (xs ++ ys)) e ∙ take-append_seam xs ys

first_start : (starts : List ℕ) (d : ℕ) → 0 < length starts → get_or starts 0 d ≡ get_or starts 0 0
first_start [] d lt = absurd (omega arith)
first_start (s ∷ ss) d lt = refl

pub level_zero-is : (t : Assigned) (levels : Levels) → IsLevels t levels → level_zero t ≡ take levels.zero t.literals
level_zero-is t levels h =
    ap (λ n. take n t.literals) (first_start t.starts (length t.literals) h.above ∙ sym h.zero)

pub stored_of : (all rows : List (List Literal)) (t : Assigned) (levels : Levels) → IsLevels t levels → IsJustified all rows t
    → IsStored (has (take levels.zero t.literals)) all rows
stored_of all rows t levels is h = subst (λ z. IsStored (has z) all rows) (level_zero-is t levels is) h.stored

pub reason_inside : (all rows : List (List Literal)) (t : Assigned) → IsJustified all rows t → (p c : ℕ) (l : Literal) → slice_get t.literals p ≡ Some l
    → slice_get t.reasons p ≡ Some (Some c) → c < length rows
reason_inside all rows t h p c l e f =
    let r = h.reasons p c l e f in
    let inside : c < length all = at_inside all c r.clause r.numbered in
    omega (arith, inside, h.stored.count)

pub not_same : (k l : Literal) → (k.variable == l.variable) ≡ false → same k l ≡ false
not_same k l n = false_from_ne_true _ (λ e. false≢true (sym n ∙ eq-eqb k.variable l.variable (ap (λ z. z.variable) (same-true k l e))))

pub reason_false : (all rows : List (List Literal)) (t : Assigned) → IsJustified all rows t → (p c : ℕ) (l : Literal) (row : List Literal) → slice_get t.literals p ≡ Some l
    → slice_get t.reasons p ≡ Some (Some c) → slice_get rows c ≡ Some row → (k : Literal) → has row k ≡ true → (k.variable == l.variable) ≡ false
    → has (take p t.literals) (negated k) ≡ true
reason_false all rows t h p c l row e f stored k i n =
    let r = h.reasons p c l e f in
    let is = h.stored.each c r.clause row r.numbered stored (h.kept p c row f stored) in
    all_negated-at (has (take p t.literals)) (others l r.clause) r.forced k (has-others l r.clause k ∙ and_from _ _ (is.part k i) (ap not (not_same k l n)))

pub reason_before : (all rows : List (List Literal)) (t : Assigned) → IsJustified all rows t → (p c : ℕ) (l : Literal) (row : List Literal) → slice_get t.literals p ≡ Some l
    → slice_get t.reasons p ≡ Some (Some c) → slice_get rows c ≡ Some row → (v : ℕ) → v ≡ l.variable → AreFalseBefore t.literals p (Some v) row
reason_before all rows t h p c l row e f stored v same k i n =
    reason_false all rows t h p c l row e f stored k i (flip k.variable l.variable (subst (λ z. (z == k.variable) ≡ false) same n))
  where
    flip : (a b : ℕ) → (b == a) ≡ false → (a == b) ≡ false
    flip a b e = false_from_ne_true _ (λ s. false≢true (sym e ∙ (eq-eqb b a (sym (eqb-true a b s)))))

-- what has no reason at the last level stands where it begins
pub decision_at : (t : Assigned) (levels : Levels) → IsTrail t → IsLevels t levels → (p : ℕ) → levels.start ≤ p → slice_get t.reasons p ≡ Some None → p ≡ levels.start
decision_at t levels trail is p above e =
    let d = trail.decisions p e in
    let inside : d.0 < length t.starts = d.1 in
    let at : level_start t.starts d.0 ≡ p = d.2 in
    let last : levels.start ≡ level_start t.starts (length t.starts - 1) = is.start in
    elim (cases_eq d.0 (length t.starts - 1)) [
      | inl s ↦ sym at ∙ (ap (level_start t.starts) s ∙ sym last)
      | inr n ↦
          (let k : level_start t.starts d.0 < level_start t.starts (length t.starts - 1) = trail.rising d.0 (length t.starts - 1) (omega (arith, inside, n)) (omega (arith, inside)) in
          absurd (omega (arith, k, at, last, above)))
    ]

pub zero_below : (t : Assigned) (levels : Levels) → IsTrail t → IsLevels t levels → levels.zero ≤ levels.start
zero_below t levels trail is =
    let a : levels.zero ≡ level_start t.starts 0 = is.zero in
    let b : levels.start ≡ level_start t.starts (length t.starts - 1) = is.start in
    elim (cases_eq 0 (length t.starts - 1)) [
      | inl s ↦ (let e : level_start t.starts 0 ≡ level_start t.starts (length t.starts - 1) = ap (level_start t.starts) s in omega (arith, a, b, e))
      | inr n ↦ (let inside : 0 < length t.starts = is.above in
          let k : level_start t.starts 0 < level_start t.starts (length t.starts - 1) = trail.rising 0 (length t.starts - 1) (omega (arith, n)) (omega (arith, inside)) in omega (arith, a, b, k))
    ]

pub start_inside : (t : Assigned) (levels : Levels) → IsTrail t → IsLevels t levels → levels.start < length t.literals
start_inside t levels trail is =
    let a : levels.start ≡ level_start t.starts (length t.starts - 1) = is.start in
    let inside : 0 < length t.starts = is.above in
    let b : level_start t.starts (length t.starts - 1) < length t.literals = trail.inside (length t.starts - 1) (omega (arith, inside)) in
    omega (arith, a, b)
