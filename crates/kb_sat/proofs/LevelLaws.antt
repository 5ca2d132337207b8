-- Resolution down the last level to its first unique implication point.
use Rattle.std.proofs.Common.{◌≡◌, ℕ, ◌+◌, ◌<◌, ◌≤◌, ◌==◌, List, [], ◌∷◌, ◌++◌, Bool, true, false, not, ◌&&◌, ◌||◌, nat_le, arith, refl, ap, sym, ◌∙◌, inl, inr, subst, length, set, Option, Some, slice_get}
use Rattle.std.proofs.lemmas.Bool.{false≢true, cases_eq, cases_lt, le-leb, ne_eqb}
use Rattle.kb_chain.specs.Literal.{Literal, has, negated}
use Rattle.kb_propagate.specs.Trail.{Assigned, IsTrail}
use Rattle.kb_propagate.specs.Store.{IsJustified}
use Rattle.kb_sat.specs.Analysis.{is_seen, at_position, pending_below, IsLevels, AreMarked, MarksOthers, IsLastSeen, NoneSeen, IsReached}
use Rattle.kb_sat.specs.declared.analysis.Levels.{Levels}
use Rattle.kb_sat.specs.declared.analysis.Marks.{Marks}
use Rattle.kb_propagate.proofs.Places.{at_within, at_has}
use Rattle.kb_sat.proofs.MarkLaws.{IsOnce, at_position-is, seen_other, pending_none, pending_zero}
use Rattle.kb_sat.proofs.MarkedLaws.{variable_inside, AreMarked-last}
use Rattle.kb_sat.proofs.HeldLaws.{reached_skip, reached_keep, reached_resolve}
use Rattle.kb_sat.proofs.ReasonLaws.{stored_of}

unseen_at : (literals : List Literal) (seen : List Bool) (end : ℕ) → end ≤ length literals
    → (start : ℕ) → ((q : ℕ) (l : Literal) → start ≤ q → q < end → slice_get literals q ≡ Some l → is_seen seen l.variable ≡ false)
    → (q : ℕ) → start ≤ q → q < end → is_seen seen (at_position literals q).variable ≡ false
unseen_at literals seen end inside start f q le lt =
    let r = at_within literals q (omega (arith, lt, inside)) in
    ap (λ z. is_seen seen z.variable) (at_position-is literals q r.0 r.1) ∙ f q r.0 le lt r.1

-- the last marked variable is of the last level, as long as one is
pub found_above : (vars : ℕ) (literals : List Literal) (levels : Levels) (end p : ℕ) (marks : Marks) → AreMarked vars literals levels end marks → 0 < marks.pending
    → IsLastSeen literals marks.seen.items end p → levels.start ≤ p
found_above vars literals levels end p marks h some last = elim (cases_lt p levels.start) [
  | inr ge ↦ ge
  | inl lt ↦
      (let none : pending_below marks.seen.items literals levels.start end ≡ 0 =
      pending_none marks.seen.items literals levels.start end
      (unseen_at literals marks.seen.items end h.inside levels.start (λ q l le inside e. last.last q l (omega (arith, lt, le)) inside e)) in
      absurd (omega (arith, none, h.pending, some)))
]

-- the marks without it
pub found_marked : (t : Assigned) (levels : Levels) (end p : ℕ) (old new : Marks) (l : Literal) (v : ℕ) → IsTrail t → IsOnce t.literals
    → slice_get t.literals p ≡ Some l → v ≡ l.variable → IsLastSeen t.literals old.seen.items end p → AreMarked t.vars t.literals levels end old → 0 < old.pending
    → new.seen.items ≡ set old.seen.items v false → new.lower.items ≡ old.lower.items → new.pending + 1 ≡ old.pending
    → AreMarked t.vars t.literals levels p new
found_marked t levels end p old new l v trail once at same last h some seen lower pending =
    AreMarked-last t.vars t.literals levels end old new l p once at (found_above t.vars t.literals levels end p old h some last) last
    (variable_inside t l trail (at_has t.literals p l at)) (seen ∙ ap (λ k. set old.seen.items k false) same) lower pending h

pub none_found : (vars : ℕ) (literals : List Literal) (levels : Levels) (end : ℕ) (marks : Marks) → AreMarked vars literals levels end marks → 0 < marks.pending
    → NoneSeen literals marks.seen.items end → ⊥
none_found vars literals levels end marks h some none =
    let zero_pending : pending_below marks.seen.items literals levels.start end ≡ 0 =
    pending_none marks.seen.items literals levels.start end
    (unseen_at literals marks.seen.items end h.inside levels.start (λ q l le inside e. none q l inside e)) in
    omega (arith, zero_pending, h.pending, some)

-- nothing of the last level is left below a position
pub level_done : (vars : ℕ) (literals : List Literal) (levels : Levels) (p : ℕ) (marks : Marks) → AreMarked vars literals levels p marks → marks.pending ≡ 0
    → (q : ℕ) (l : Literal) → levels.start ≤ q → q < p → slice_get literals q ≡ Some l → is_seen marks.seen.items l.variable ≡ false
level_done vars literals levels p marks h none q l le lt e =
    sym (ap (λ z. is_seen marks.seen.items z.variable) (at_position-is literals q l e))
    ∙ pending_zero marks.seen.items literals levels.start p q (sym h.pending ∙ none) le lt

pub AreMarked-start : (vars : ℕ) (literals : List Literal) (levels : Levels) (p : ℕ) (marks : Marks) → AreMarked vars literals levels p marks → marks.pending ≡ 0
    → levels.start ≤ p → AreMarked vars literals levels levels.start marks
AreMarked-start vars literals levels p marks h none le =
    let whole : p ≤ length literals = h.inside in
    record {
      table = h.table;
      inside = omega (arith, le, whole);
      assigned = λ v e. (let r = h.assigned v e in
          let below : r.0 < p = r.5 in
          elim (cases_lt r.0 levels.start) [
            | inl lt ↦ (r.0, r.1, r.2, r.3, r.4, lt)
            | inr ge ↦ absurd (false≢true (sym (level_done vars literals levels p marks h none r.0 r.1 ge below r.2) ∙ (ap (is_seen marks.seen.items) r.3 ∙ e)))
          ]);
      pending = none ∙ sym (pending_none marks.seen.items literals levels.start levels.start (λ q ge lt. absurd (omega (arith, ge, lt))));
      lower = h.lower;
      each = h.each;
    }

-- one variable less does not change the others
pub others_same : (literals : List Literal) (seen : List Bool) (p : ℕ) (l : Literal) (v : ℕ) → IsOnce literals → slice_get literals p ≡ Some l → v ≡ l.variable
    → (q : ℕ) (m : Literal) → q < p → slice_get literals q ≡ Some m → is_seen (set seen v false) m.variable ≡ is_seen seen m.variable
others_same literals seen p l v once at same q m lt e =
    seen_other seen v false m.variable (λ w. (let i : p ≡ q = once p q l m at e (w ∙ same) in absurd (omega (arith, i, lt))))

-- the point is found
pub reached_point : (all : List (List Literal)) (number : ℕ) (steps : List (ℕ × ℕ)) (vars : ℕ) (literals : List Literal) (levels : Levels) (end p : ℕ) (marks later : Marks)
    (l : Literal) (v : ℕ) → IsOnce literals → levels.zero ≤ levels.start → levels.start ≤ p → slice_get literals p ≡ Some l → v ≡ l.variable
    → IsLastSeen literals marks.seen.items end p → later.seen.items ≡ set marks.seen.items v false → AreMarked vars literals levels p later → later.pending ≡ 0
    → IsReached all number steps literals levels.zero end marks.seen.items []
    → IsReached all number steps literals levels.zero levels.start later.seen.items (negated l ∷ [])
reached_point all number steps vars literals levels end p marks later l v once ordered above at same last cleared h none r =
    let below : p < end = last.below in
    let low : levels.zero ≤ p = omega (arith, ordered, above) in
    reached_skip all number steps literals levels.zero levels.start p later.seen.items (negated l ∷ []) ordered above
    (λ q m le lt e. level_done vars literals levels p later h none q m le lt e)
    (reached_keep all number steps literals levels.zero p marks.seen.items later.seen.items [] l once at low (last.marked l at)
    (λ q m lt e. ap (λ z. is_seen z m.variable) cleared ∙ others_same literals marks.seen.items p l v once at same q m lt e)
    (reached_skip all number steps literals levels.zero (p + 1) end marks.seen.items [] (omega (arith, low)) (omega (arith, below))
    (λ q m le lt e. last.last q m (omega (arith, le)) lt e) r))

joined_marks : (a h v z : Bool) → v ≡ true → z ≡ true → (a || (h && (v && z))) ≡ (a || h)
joined_marks true h v z e f = refl
joined_marks false true v z e f = ap (λ b. b && z) e ∙ f
joined_marks false false v z e f = refl

-- one more literal is resolved on
pub reached_step : (all rows : List (List Literal)) (t : Assigned) (number : ℕ) (steps : List (ℕ × ℕ)) (levels : Levels) (end p : ℕ) (seen cleared later : List Bool)
    (stored : List Literal) (l : Literal) (c v : ℕ) → IsTrail t → IsOnce t.literals → IsLevels t levels → IsJustified all rows t → levels.zero ≤ p
    → slice_get t.literals p ≡ Some l → slice_get t.reasons p ≡ Some (Some c) → slice_get rows c ≡ Some stored → v ≡ l.variable
    → IsLastSeen t.literals seen end p → cleared ≡ set seen v false → MarksOthers t.literals levels (Some v) stored cleared later
    → IsReached all number steps t.literals levels.zero end seen []
    → IsReached all number (steps ++ (v, c) ∷ []) t.literals levels.zero p later []
reached_step all rows t number steps levels end p seen cleared later stored l c v trail once is justified low at reason row same last clear marks r =
    let below : p < end = last.below in
    subst (λ z. IsReached all number (steps ++ (z, c) ∷ []) t.literals levels.zero p later []) (sym same)
    (reached_resolve all rows number steps t.literals levels.zero p seen later [] stored l c once trail.consistent at low (last.marked l at)
    (justified.reasons p c l at reason) (stored_of all rows t levels is justified) row (justified.kept p c stored reason row)
    (λ q m ge lt e. marks q m e
    ∙ (joined_marks (is_seen cleared m.variable) (has stored (negated m)) (not (v == m.variable)) (nat_le levels.zero q)
    (ap not (ne_eqb v m.variable (λ w. (let i : p ≡ q = once p q l m at e (sym w ∙ same) in absurd (omega (arith, i, lt))))))
    (le-leb levels.zero q ge)
    ∙ ap (λ b. b || has stored (negated m)) (ap (λ z. is_seen z m.variable) clear ∙ others_same t.literals seen p l v once at same q m lt e)))
    (reached_skip all number steps t.literals levels.zero (p + 1) end seen [] (omega (arith, low)) (omega (arith, below))
    (λ q m le lt e. last.last q m (omega (arith, le)) lt e) r))

or_false : (a b : Bool) → (a || b) ≡ false → a ≡ false
or_false true b e = absurd (false≢true (sym e))
or_false false b e = refl

-- marks only grow, so that some of the last level are left
pub pending_grows : (vars : ℕ) (literals : List Literal) (levels : Levels) (p : ℕ) (pivot : Option ℕ) (stored : List Literal) (old new : Marks)
    → AreMarked vars literals levels p old → AreMarked vars literals levels p new → MarksOthers literals levels pivot stored old.seen.items new.seen.items
    → (old.pending ≡ 0 → ⊥) → 0 < new.pending
pending_grows vars literals levels p pivot stored old new h k marks some = elim (cases_eq new.pending 0) [
  | inr n ↦ omega (arith, n)
  | inl none ↦ absurd (some (h.pending ∙ pending_none old.seen.items literals levels.start p
      (unseen_at literals old.seen.items p h.inside levels.start (λ q l le lt e.
      or_false (is_seen old.seen.items l.variable) _ (sym (marks q l e) ∙ level_done vars literals levels p new k none q l le lt e)))))
]

-- a decision is the point itself
pub decision_last : (vars : ℕ) (literals : List Literal) (levels : Levels) (p : ℕ) (marks : Marks) → AreMarked vars literals levels p marks → p ≡ levels.start → marks.pending ≡ 0
decision_last vars literals levels p marks h e =
    h.pending ∙ pending_none marks.seen.items literals levels.start p (λ q ge lt. absurd (omega (arith, e, ge, lt)))
