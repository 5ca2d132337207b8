use Rattle.std.proofs.Common.{◌≡◌, ◌↔◌, ◌<◌, ℕ, true, length, [], slice_index_or}
use Rattle.kb_order.specs.Order.{IsAbove}
use Rattle.kb_classes.specs.Subtypes.{is_super}
use Rattle.kb_link.proofs.supers.supers_of.Given as goal

abbrev pub invariant-loop-low : goal.invariant-loop-low
invariant-loop-low l =
    (length l.supers.items ≡ l.low)
    × ((low : ℕ) → low < l.low → length (slice_index_or l.supers.items low []) ≡ length l.fn.order)
    × ((low high : ℕ) → low < l.low → (is_super l.supers.items low high ≡ true) ↔ IsAbove l.fn.order low high)
