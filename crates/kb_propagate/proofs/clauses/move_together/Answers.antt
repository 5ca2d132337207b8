use Rattle.std.proofs.Common.{◌≡◌, ◌+◌, ◌≤◌, ◌∙◌, ap, sym, subst, refl, length, length-set, set, arith, Some, slice_get}
use Rattle.std.specs.List.{copy_within}
use Rattle.std.proofs.lemmas.Option.{slice_get_read}
use Rattle.kb_propagate.specs.Rows.{stored_of}
use Rattle.kb_propagate.proofs.Places.{at_same, at_inside}
use Rattle.kb_propagate.specs.declared.clauses.Slot.{Slot}
use Rattle.kb_propagate.proofs.CompactLaws.{IsMoving, IsMoving-start, IsMoving-next, IsMoving-end, moving_copies}
use Rattle.kb_propagate.proofs.clauses.move_together.Goals as goal
use Rattle.kb_propagate.proofs.clauses.move_together.Goals.{After-index}

pub loop-number-init : goal.loop-number-init
loop-number-init c = record {
  moving = IsMoving-start c.args.flat.now.items c.args.slots.now.items c.requires.within c.requires.apart;
  count = refl;
}

-- the clause whose literals move
there : (c : After-index) → slice_get c.loop-number.slots.items c.loop-number.number ≡ Some c.index.result.now
there c =
    let slots = c.loop-number.slots.items in
    let whole : length slots ≡ length c.args.slots.now.items = c.loop-number.invariant.count in
    slice_get_read slots (length slots) c.loop-number.number c.index.result.now refl (omega (arith, c.loop-number-test.true, c.len-number-end.ensures, whole)) c.index.ensures

copies : (c : After-index) → (c.index.result.now.span.start ≤ c.index.result.now.span.end) × (c.index.result.now.span.end ≤ length c.loop-number.flat.items)
    × (c.loop-number.end ≤ c.index.result.now.span.start)
copies c =
    moving_copies c.loop-number.flat.items c.loop-number.slots.items c.loop-number.number c.loop-number.end (stored_of c.args.flat.now.items c.args.slots.now.items) c.index.result.now
    c.loop-number.invariant.moving (there c)

pub copy_within-requires-clause-start_le_end : goal.copy_within-requires-clause-start_le_end
copy_within-requires-clause-start_le_end c = (copies (goal.at.copy_within-requires-clause-start_le_end c).After-index).0

pub copy_within-requires-clause-in_bounds : goal.copy_within-requires-clause-in_bounds
copy_within-requires-clause-in_bounds c = let h = (copies (goal.at.copy_within-requires-clause-in_bounds c).After-index).1 in omega (arith, h)

pub copy_within-requires-clause-dest_in_bounds : goal.copy_within-requires-clause-dest_in_bounds
copy_within-requires-clause-dest_in_bounds c = let h = copies (goal.at.copy_within-requires-clause-dest_in_bounds c).After-index in omega (arith, h.0, h.1, h.2)

pub earlier-later-requires-clause-order : goal.earlier-later-requires-clause-order
earlier-later-requires-clause-order c = (copies (goal.at.earlier-later-requires-clause-order c).After-index).0

pub earlier-later-requires-clause-earlier : goal.earlier-later-requires-clause-earlier
earlier-later-requires-clause-earlier c = (copies (goal.at.earlier-later-requires-clause-earlier c).After-index).2

pub loop-number-preserved : goal.loop-number-preserved
loop-number-preserved c =
    let flat = c.loop-number.flat.items in
    let slots = c.loop-number.slots.items in
    let n = c.loop-number.number in
    let end = c.loop-number.end in
    let slot = c.index.result.now in
    let at = there (goal.at.loop-number-preserved c).After-index in
    let kept = c.index_mut.result.now in
    let again : kept ≡ slot = at_same slots n kept slot (slice_get_read slots (length slots) n kept refl (at_inside slots n slot at) c.index_mut.ensures.value) at in
    let later : Slot = record kept { span = c.earlier-later.result } in
    let clauses = stored_of c.args.flat.now.items c.args.slots.now.items in
    record {
      moving = subst (λ z. IsMoving z (set slots n later) (n + 1) c.earlier-later.result.end clauses) (sym c.copy_within.ensures.items)
          (subst (λ z. IsMoving (copy_within flat slot.span.start slot.span.end end) (set slots n later) (n + 1) z clauses) (sym c.earlier-later.ensures.end)
          (IsMoving-next flat slots n end clauses slot later c.loop-number.invariant.moving at c.earlier-later.ensures.start c.earlier-later.ensures.end (ap (λ (z : Slot). z.awake) again)));
      count = length-set slots n later ∙ c.loop-number.invariant.count;
    }

pub returns-clause-end : goal.returns-clause-end
returns-clause-end c = c.loop-number.invariant.moving.inside

pub returns-clause-within : goal.returns-clause-within
returns-clause-within c =
    (IsMoving-end c.loop-number.flat.items c.loop-number.slots.items c.loop-number.number c.loop-number.end (stored_of c.args.flat.now.items c.args.slots.now.items)
    c.loop-number.invariant.moving (omega (arith, c.loop-number.invariant.count, c.loop-number-test.false, c.len-number-end.ensures))).0

pub returns-clause-apart : goal.returns-clause-apart
returns-clause-apart c = c.loop-number.invariant.moving.apart

pub returns-clause-stored : goal.returns-clause-stored
returns-clause-stored c =
    (IsMoving-end c.loop-number.flat.items c.loop-number.slots.items c.loop-number.number c.loop-number.end (stored_of c.args.flat.now.items c.args.slots.now.items)
    c.loop-number.invariant.moving (omega (arith, c.loop-number.invariant.count, c.loop-number-test.false, c.len-number-end.ensures))).1
