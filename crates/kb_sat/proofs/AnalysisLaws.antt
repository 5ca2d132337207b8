-- From a conflict to what it teaches.
use Rattle.std.proofs.Common.{◌≡◌, ℕ, ◌+◌, ◌-◌, ◌<◌, ◌≤◌, List, [], ◌∷◌, Bool, true, false, ◌&&◌, ◌||◌, nat_le, arith, refl, ap, sym, ◌∙◌, inl, inr, subst, length, take, Option, None, Some, slice_get}
use Rattle.std.proofs.lemmas.Bool.{false≢true, cases_eq, cases_lt, or_cases, le-leb, and_parts, not-true}
use Rattle.std.proofs.lemmas.List.{take_all}
use Rattle.kb_chain.specs.Literal.{Literal, has, same, negated}
use Rattle.kb_chain.specs.Propagation.{all_negated, others}
use Rattle.kb_chain.specs.Index.{has_number}
use Rattle.kb_chain.specs.declared.log.Chain.{Chain}
use Rattle.kb_chain.proofs.LiteralLaws.{negated-negated}
use Rattle.kb_chain.proofs.PropagationLaws.{all_negated-from, all_negated-at, has-others}
use Rattle.kb_propagate.specs.Trail.{Assigned, IsTrail, level_start, before_level}
use Rattle.kb_propagate.specs.Store.{IsJustified}
use Rattle.kb_propagate.specs.Base.{IsConflict}
use Rattle.kb_sat.specs.Search.{IsLearned}
use Rattle.kb_sat.specs.Analysis.{is_seen, IsLevels, AreFalseBefore, AreMarked, IsClean, MarksOthers, IsReached, ArePut}
use Rattle.kb_sat.specs.declared.analysis.Levels.{Levels}
use Rattle.kb_sat.specs.declared.analysis.Marks.{Marks}
use Rattle.kb_propagate.proofs.Places.{at_within, at_inside, has_at, at_has, at_same}
use Rattle.kb_sat.proofs.MarkLaws.{IsOnce, at_has_taken, pending_none}
use Rattle.kb_sat.proofs.HeldLaws.{not_before, has_fewer, held_start}
use Rattle.kb_sat.proofs.LevelLaws.{level_done}
use Rattle.kb_sat.proofs.ReasonLaws.{stored_of, level_zero-is, zero_below}

-- no marks
pub AreMarked-clean : (vars : ℕ) (literals : List Literal) (levels : Levels) (marks : Marks) → IsClean vars marks → AreMarked vars literals levels (length literals) marks
AreMarked-clean vars literals levels marks h = record {
  table = h.table;
  inside = omega arith;
  assigned = λ v e. absurd (false≢true (sym (h.unseen v) ∙ e));
  pending = h.pending ∙ sym (pending_none marks.seen.items literals levels.start (length literals) (λ q ge lt. h.unseen _));
  lower = λ p e. absurd (false≢true (ap (λ z. has_number z p) (sym h.lower) ∙ e));
  each = λ p l e ge lt s. absurd (false≢true (sym (h.unseen l.variable) ∙ s));
}

-- the row of a conflict is false
pub conflict_false : (rows : List (List Literal)) (t : Assigned) (number : ℕ) (row : List Literal) → IsConflict rows t number → slice_get rows number ≡ Some row
    → all_negated (has t.literals) row ≡ true
conflict_false rows t number row h e = ap (all_negated (has t.literals)) (at_same rows number row h.row e h.numbered) ∙ h.false_all

pub false_before : (literals : List Literal) (row : List Literal) → all_negated (has literals) row ≡ true → AreFalseBefore literals (length literals) None row
false_before literals row h l e n =
    ap (λ z. has z (negated l)) (take_all (length literals) literals (omega arith)) ∙ all_negated-at (has literals) row h l e

first_marks : (a h z : Bool) → a ≡ false → z ≡ true → (a || (h && (true && z))) ≡ h
first_marks true h z e f = absurd (false≢true (sym e))
first_marks false true z e f = f
first_marks false false z e f = refl

pub marks_row : (vars : ℕ) (literals : List Literal) (levels : Levels) (row : List Literal) (old new : Marks) → IsClean vars old
    → MarksOthers literals levels None row old.seen.items new.seen.items
    → (p : ℕ) (l : Literal) → slice_get literals p ≡ Some l → levels.zero ≤ p → is_seen new.seen.items l.variable ≡ has row (negated l)
marks_row vars literals levels row old new clean marks p l e le =
    marks p l e ∙ first_marks (is_seen old.seen.items l.variable) (has row (negated l)) (nat_le levels.zero p) (clean.unseen l.variable) (le-leb levels.zero p le)

-- a literal of the last level is in the row
pub some_pending : (t : Assigned) (levels : Levels) (row : List Literal) (old new : Marks) → IsTrail t → IsLevels t levels → IsClean t.vars old
    → MarksOthers t.literals levels None row old.seen.items new.seen.items → AreMarked t.vars t.literals levels (length t.literals) new
    → all_negated (has t.literals) row ≡ true → all_negated (has (before_level t (length t.starts - 1))) row ≡ false → 0 < new.pending
some_pending t levels row old new trail is clean marks h negates last = elim (cases_eq new.pending 0) [
  | inr n ↦ omega (arith, n)
  | inl none ↦ absurd (false≢true (sym last ∙ all_negated-from (has (before_level t (length t.starts - 1))) row (λ m i.
      ap (λ k. has (take k t.literals) (negated m)) (sym is.start) ∙ below none m i)))
]
  where
    below : new.pending ≡ 0 → (m : Literal) → has row m ≡ true → has (take levels.start t.literals) (negated m) ≡ true
    below none m i =
        let r = has_at t.literals (negated m) (all_negated-at (has t.literals) row negates m i) in
        elim (cases_lt r.0 levels.start) [
          | inl lt ↦ at_has_taken levels.start t.literals r.0 (negated m) r.1 lt
          | inr ge ↦
              (let ordered : levels.zero ≤ levels.start = zero_below t levels trail is in
              let seen = marks_row t.vars t.literals levels row old new clean marks r.0 (negated m) r.1 (omega (arith, ordered, ge)) in
              absurd (false≢true (sym (level_done t.vars t.literals levels (length t.literals) new h none r.0 (negated m) ge (at_inside t.literals r.0 (negated m) r.1) r.1)
              ∙ (seen ∙ (ap (has row) (negated-negated m) ∙ i)))))
        ]

-- a row that is not false has a literal
pub some_open : (set : Literal → Bool) (row : List Literal) → all_negated set row ≡ false → 0 < length row
some_open set [] e = absurd (false≢true (sym e))
some_open set (x ∷ row) e = omega arith

-- before any step
pub reached_start : (all rows : List (List Literal)) (t : Assigned) (levels : Levels) (number : ℕ) (row : List Literal) (old new : Marks) → IsOnce t.literals → IsLevels t levels
    → IsJustified all rows t → slice_get rows number ≡ Some row → 0 < length row → all_negated (has t.literals) row ≡ true → IsClean t.vars old
    → MarksOthers t.literals levels None row old.seen.items new.seen.items
    → IsReached all number [] t.literals levels.zero (length t.literals) new.seen.items []
reached_start all rows t levels number row old new once is justified e some negates clean marks =
    let stored = stored_of all rows t levels is justified in
    let inside : number < length rows = at_inside rows number row e in
    let found = at_within all number (omega (arith, inside, stored.count)) in
    record {
      clause = found.0;
      derives = found.1;
      held = held_start t.literals levels.zero new.seen.items row found.0 once (stored.each number found.0 row found.1 e some) negates
          (marks_row t.vars t.literals levels row old new clean marks);
    }

-- the level of the position, if there is one
abbrev pub IsLeveled : Assigned → Option ℕ → ℕ → Type 0
IsLeveled t None level = level ≡ 0
IsLeveled t (Some q) level = (level < length t.starts) × (q < level_start t.starts level) × (0 < level → level_start t.starts (level - 1) ≤ q)

pub leveled_some : (t : Assigned) (highest : Option ℕ) (q level found : ℕ) → highest ≡ Some q → level ≡ found → found < length t.starts → q < level_start t.starts found
    → (0 < found → level_start t.starts (found - 1) ≤ q) → IsLeveled t highest level
leveled_some t highest q level found e f inside below above =
    subst (λ z. IsLeveled t z level) (sym e) (subst (λ z. IsLeveled t (Some q) z) (sym f) (inside, below, above))

pub leveled_none : (t : Assigned) (highest : Option ℕ) (level : ℕ) → highest ≡ None → level ≡ 0 → IsLeveled t highest level
leveled_none t highest level e f = subst (λ z. IsLeveled t z level) (sym e) f

-- what is behind the first literal
record IsRest (t : Assigned) (levels : Levels) (highest : Option ℕ) (level : ℕ) (row : List Literal) (first : Literal) : Type 0 where
  rest : List Literal
  shape : row ≡ first ∷ rest
  earlier : all_negated (has (take levels.start t.literals)) rest ≡ true
  below : level < length t.starts
  returns : all_negated (has (before_level t level)) rest ≡ true
  second : 0 < level → (y : Literal) × (slice_get row 1 ≡ Some y) × (has (before_level t (level - 1)) (negated y) ≡ false)

negated_fewer : (literals : List Literal) (a b : ℕ) (ls : List Literal) → a ≤ b → all_negated (has (take a literals)) ls ≡ true → all_negated (has (take b literals)) ls ≡ true
negated_fewer literals a b ls le h =
    all_negated-from (has (take b literals)) ls (λ l e. has_fewer literals a b (negated l) le (all_negated-at (has (take a literals)) ls h l e))

rest_of : (t : Assigned) (levels : Levels) (highest : Option ℕ) (level : ℕ) (row : List Literal) (first : Literal) → IsOnce t.literals → IsLevels t levels
    → ArePut t.literals levels (first ∷ []) row highest → IsLeveled t highest level → IsRest t levels highest level row first
rest_of t levels None level row first once is put leveled = record {
  rest = [];
  shape = put;
  earlier = refl;
  below = subst (λ z. z < length t.starts) (sym leveled) is.above;
  returns = refl;
  second = λ lt. absurd (omega (arith, lt, leveled));
}
rest_of t levels (Some q) level row first once is put leveled =
    let below : q < levels.start = put.below in
    let inside : q < level_start t.starts level = leveled.1 in
    record {
      rest = put.first ∷ put.more;
      shape = put.shape;
      earlier = negated_fewer t.literals (q + 1) levels.start (put.first ∷ put.more) (omega (arith, below)) put.earlier;
      below = leveled.0;
      returns = negated_fewer t.literals (q + 1) (level_start t.starts level) (put.first ∷ put.more) (omega (arith, inside)) put.earlier;
      second = λ lt. (
        put.first,
        ap (λ z. slice_get z 1) put.shape,
        not_before t.literals once q (level_start t.starts (level - 1)) (negated put.first) put.at (leveled.2 lt),
      );
    }

pub learned_of : (all : List (List Literal)) (t : Assigned) (levels : Levels) (chain : Chain) (seen : List Bool) (row : List Literal) (point : Literal)
    (p : ℕ) (highest : Option ℕ) (level : ℕ) → IsTrail t → IsOnce t.literals → IsLevels t levels → levels.start ≤ p → slice_get t.literals p ≡ Some point
    → ArePut t.literals levels (negated point ∷ []) row highest → IsLeveled t highest level
    → IsReached all chain.start chain.steps t.literals levels.zero levels.zero seen row → IsLearned all t chain row level
learned_of all t levels chain seen row point p highest level trail once is above at put leveled r =
    let ordered : levels.zero ≤ levels.start = zero_below t levels trail is in
    let rest = rest_of t levels highest level row (negated point) once is put leveled in
    record {
      clause = r.clause;
      derives = r.derives;
      stored = record {
        part = λ l e. (r.held.part l e).0;
        rest = λ l e n. elim (r.held.late l e) [
          | inl k ↦ ap (λ z. has z (negated l)) (level_zero-is t levels is) ∙ k
          | inr k ↦ absurd (false≢true (sym n ∙ k))
        ];
      };
      asserting = negated point;
      rest = rest.rest;
      shape = rest.shape;
      false_now = ap (has t.literals) (negated-negated point) ∙ at_has t.literals p point at;
      free_before = ap (has (before_level t (length t.starts - 1))) (negated-negated point)
          ∙ (ap (λ k. has (take k t.literals) point) (sym is.start) ∙ not_before t.literals once p levels.start point at above);
      earlier = ap (λ k. all_negated (has (take k t.literals)) (others (negated point) r.clause)) (sym is.start)
          ∙ all_negated-from (has (take levels.start t.literals)) (others (negated point) r.clause) (λ l e. (
          let k = and_parts _ _ (sym (has-others (negated point) r.clause l) ∙ e) in
          elim (r.held.late l k.0) [
            | inl low ↦ has_fewer t.literals levels.zero levels.start (negated l) ordered low
            | inr i ↦ elim (or_cases (same l (negated point)) (has rest.rest l) (sym (ap (λ z. has z l) rest.shape) ∙ i)) [
              | inl s ↦ absurd (false≢true (sym (not-true _ k.1) ∙ s))
              | inr s ↦ all_negated-at (has (take levels.start t.literals)) rest.rest rest.earlier l s
            ]
          ]));
      below = rest.below;
      returns = rest.returns;
      second = rest.second;
    }
