use Rattle.std.proofs.Common.{◌≡◌, ◌+◌, ◌*◌, ◌<◌, ◌≤◌, ◌∙◌, ap, sym, refl, inl, inr, length, [], ◌∷◌, ◌++◌, arith, ℕ, List, true, get_or, Some, slice_get}
use Rattle.std.proofs.lemmas.Bool.{false≢true, or_right}
use Rattle.std.proofs.lemmas.Option.{slice_get_read}
use Rattle.kb_chain.specs.Literal.{Literal, has, same, negated, place_of}
use Rattle.kb_chain.proofs.LiteralLaws.{same_refl}
use Rattle.kb_chain.proofs.IndexLaws.{not_zero}
use Rattle.kb_chain.proofs.PropagationLaws.{all_negated-from}
use Rattle.kb_propagate.specs.Rows.{rows_of}
use Rattle.kb_propagate.specs.Watches.{pairs_of}
use Rattle.kb_propagate.proofs.Places.{at_has}
use Rattle.kb_propagate.proofs.TrailLaws.{has_pushed}
use Rattle.kb_propagate.proofs.PairLaws.{pair_there}
use Rattle.kb_propagate.proofs.JustifyLaws.{IsJustified-push, push_part}
use Rattle.kb_propagate.proofs.BeginLaws.{IsBegun-next, ordered_apart, only_one, first_of}
use Rattle.kb_propagate.proofs.begin.watch_clause.Goals as goal

-- the place of the first literal of a row
first_low : (row : List Literal) (x : Literal) (vars : ℕ) → 0 < length row → x ≡ get_or row 0 x → ((l : Literal) → has row l ≡ true → place_of l < 2 * vars + 2)
    → place_of x < 2 * vars + 2
first_low row x vars some is within = within x (first_of row x some is)

pub watch_pair-requires-clause-first : goal.watch_pair-requires-clause-first
watch_pair-requires-clause-first c =
    let low = first_low c.literals-literals.result.now c.index-literals-0.result c.args.trail.now.vars (not_zero _ c.is_empty.ensures c.if-is_empty.false) c.index-literals-0.is
    (c.requires.within c.literals-literals.result.now c.literals-literals.ensures) in
    omega (arith, low, c.requires.begun.watching.places)

pub watch_pair-requires-clause-second : goal.watch_pair-requires-clause-second
watch_pair-requires-clause-second c =
    let row = c.literals-literals.result.now in
    let y = c.index-literals-1.result in
    let second : slice_get row 1 ≡ Some y = slice_get_read row (length row) 1 y refl c.if-literals-gt1.true c.index-literals-1.is in
    let low : place_of y < 2 * c.args.trail.now.vars + 2 = c.requires.within row c.literals-literals.ensures y (at_has row 1 y second) in
    let places : length c.args.watches.now.lists.items ≡ 2 * c.args.trail.now.vars + 2 = c.requires.begun.watching.places in
    omega (arith, low, places)

pub returns-then-literals-gt1-clause-begun : goal.returns-then-literals-gt1-clause-begun
returns-then-literals-gt1-clause-begun c =
    let row = c.literals-literals.result.now in
    let x = c.index-literals-0.result in
    let y = c.index-literals-1.result in
    let some = not_zero _ c.is_empty.ensures c.if-is_empty.false in
    let second : slice_get row 1 ≡ Some y = slice_get_read row (length row) 1 y refl c.if-literals-gt1.true c.index-literals-1.is in
    rw c.in_ok-watch_pair.ensures
    (IsBegun-next (rows_of c.args.clauses.now) c.args.number row (pairs_of c.args.clauses.now) c.args.watches.now.lists.items c.args.trail.now c.args.trail.now x y
    c.literals-literals.ensures (pair_there c.args.clauses.now c.args.number row x y c.literals-literals.ensures c.requires.awake some c.index-literals-0.is (inl second)) c.requires.begun
    (first_of row x some c.index-literals-0.is) (at_has row 1 y second) (c.requires.within row c.literals-literals.ensures)
    (λ s. absurd (false≢true (sym (ordered_apart row x y (c.requires.ordered row c.literals-literals.ensures) c.index-literals-0.is second) ∙ s))) (λ l e. e) refl)

pub watch_pair-requires-2-clause-first : goal.watch_pair-requires-2-clause-first
watch_pair-requires-2-clause-first c =
    let low = first_low c.literals-literals.result.now c.index-literals-0.result c.args.trail.now.vars (not_zero _ c.is_empty.ensures c.if-is_empty.false) c.index-literals-0.is
    (c.requires.within c.literals-literals.result.now c.literals-literals.ensures) in
    omega (arith, low, c.requires.begun.watching.places)

pub watch_pair-requires-2-clause-second : goal.watch_pair-requires-2-clause-second
watch_pair-requires-2-clause-second c =
    let low = first_low c.literals-literals.result.now c.index-literals-0.result c.args.trail.now.vars (not_zero _ c.is_empty.ensures c.if-is_empty.false) c.index-literals-0.is
    (c.requires.within c.literals-literals.result.now c.literals-literals.ensures) in
    omega (arith, low, c.requires.begun.watching.places)

pub returns-then-is_false-clause-conflict : goal.returns-then-is_false-clause-conflict
returns-then-is_false-clause-conflict c =
    let row = c.literals-literals.result.now in
    let x = c.index-literals-0.result in
    let some : 1 ≤ length row = not_zero _ c.is_empty.ensures c.if-is_empty.false in
    let one : length row ≡ 1 = omega (arith, some, c.if-literals-gt1.false) in
    record {
      row = row;
      numbered = c.literals-literals.ensures;
      false_all = all_negated-from (has c.args.trail.now.literals) row (λ l i.
          ap (λ z. has c.args.trail.now.literals (negated z)) (only_one row x l one c.index-literals-0.is i) ∙ (sym c.is_false.ensures ∙ c.if-is_false.true));
    }

pub returns-then-is_true-clause-begun : goal.returns-then-is_true-clause-begun
returns-then-is_true-clause-begun c =
    let row = c.literals-literals.result.now in
    let x = c.index-literals-0.result in
    let some : 1 ≤ length row = not_zero _ c.is_empty.ensures c.if-is_empty.false in
    let one : length row ≡ 1 = omega (arith, some, c.if-literals-gt1.false) in
    let first : slice_get row 0 ≡ Some x = slice_get_read row (length row) 0 x refl (omega (arith, some)) c.index-literals-0.is in
    let in_row = first_of row x some c.index-literals-0.is in
    rw c.in_ok-watch_pair-2.ensures
    (IsBegun-next (rows_of c.args.clauses.now) c.args.number row (pairs_of c.args.clauses.now) c.args.watches.now.lists.items c.args.trail.now c.args.trail.now x x
    c.literals-literals.ensures (pair_there c.args.clauses.now c.args.number row x x c.literals-literals.ensures c.requires.awake some c.index-literals-0.is (inr (one, first)))
    c.requires.begun in_row in_row (c.requires.within row c.literals-literals.ensures) (λ s. sym c.is_true.ensures ∙ c.if-is_true.true) (λ l e. e) refl)

pub assign-requires-clause-place : goal.assign-requires-clause-place
assign-requires-clause-place c =
    first_low c.literals-literals.result.now c.index-literals-0.result c.args.trail.now.vars (not_zero _ c.is_empty.ensures c.if-is_empty.false) c.index-literals-0.is
    (c.requires.within c.literals-literals.result.now c.literals-literals.ensures)

pub returns-clause-begun : goal.returns-clause-begun
returns-clause-begun c =
    let row = c.literals-literals.result.now in
    let x = c.index-literals-0.result in
    let xs = c.args.trail.now.literals in
    let some : 1 ≤ length row = not_zero _ c.is_empty.ensures c.if-is_empty.false in
    let one : length row ≡ 1 = omega (arith, some, c.if-literals-gt1.false) in
    let first : slice_get row 0 ≡ Some x = slice_get_read row (length row) 0 x refl (omega (arith, some)) c.index-literals-0.is in
    let in_row = first_of row x some c.index-literals-0.is in
    rw (c.in_ok-watch_pair-2.ensures, c.assign.ensures)
    (IsBegun-next (rows_of c.args.clauses.now) c.args.number row (pairs_of c.args.clauses.now) c.args.watches.now.lists.items c.args.trail.now
    (record c.args.trail.now { literals = xs ++ x ∷ []; reasons = c.args.trail.now.reasons ++ Some c.args.number ∷ [] }) x x
    c.literals-literals.ensures (pair_there c.args.clauses.now c.args.number row x x c.literals-literals.ensures c.requires.awake some c.index-literals-0.is (inr (one, first)))
    c.requires.begun in_row in_row (c.requires.within row c.literals-literals.ensures)
    (λ s. has_pushed xs x x ∙ or_right _ _ (same_refl x)) (push_part xs x) refl)

pub returns-clause-justified : goal.returns-clause-justified
returns-clause-justified c all j =
    let row = c.literals-literals.result.now in
    let x = c.index-literals-0.result in
    let some : 1 ≤ length row = not_zero _ c.is_empty.ensures c.if-is_empty.false in
    let one : length row ≡ 1 = omega (arith, some, c.if-literals-gt1.false) in
    let in_row = first_of row x some c.index-literals-0.is in
    rw c.assign.ensures
    (IsJustified-push all (rows_of c.args.clauses.now) c.args.trail.now x c.args.number row c.tell_trail.ensures j c.literals-literals.ensures in_row
    (λ m i n. absurd (false≢true (sym n ∙ (ap (λ z. same z x) (only_one row x m one c.index-literals-0.is i) ∙ same_refl x)))))
