use Rattle.std.proofs.Common.{◌≡◌, ◌↔◌, ◌<◌, ◌+◌, ℕ, List, [], Bool, true, length, slice_index_or, sym, subst, arith}
use Rattle.kb_order.specs.Order.{IsComplete, IsAbove}
use Rattle.kb_classes.specs.Subtypes.{is_super}
use Rattle.kb_link.proofs.Above.{supers_complete, rows_pushed}
use Rattle.kb_link.proofs.supers.supers_of.Goals as goal

pub marks_of-requires : goal.marks_of-requires
marks_of-requires c = (
  (let count = c.len-low-end.ensures.count in omega (arith, count, c.loop-low-test.true)),
  subst IsComplete (sym c.requires) (supers_complete c.args.classes.now),
)

pub loop-low-preserved : goal.loop-low-preserved
loop-low-preserved c =
    let supers = c.loop-low.supers.items in
    let marks = c.in_ok-marks.marks in
    let order = c.args.order.now in
    let low = c.loop-low.low in
    let pushed = rows_pushed order supers marks low c.loop-low.invariant.0 c.loop-low.invariant.1 c.loop-low.invariant.2 c.in_ok-marks.ensures.all c.in_ok-marks.ensures.right in
    subst
    (λ (rows : List (List Bool)).
    (length rows ≡ low + 1)
    × ((k : ℕ) → k < low + 1 → length (slice_index_or rows k []) ≡ length order)
    × ((k high : ℕ) → k < low + 1 → (is_super rows k high ≡ true) ↔ IsAbove order k high))
    (sym c.in_ok-push.ensures.items) pushed
