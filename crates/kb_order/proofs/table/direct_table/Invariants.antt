use Rattle.std.proofs.Common.{◌≡◌, ◌<◌, ℕ, [], length, slice_index_or, take}
use Rattle.kb_order.specs.Order.{stands}
use Rattle.kb_order.specs.Table.{mark_at}
use Rattle.kb_order.proofs.table.direct_table.Given as goal

abbrev pub invariant-loop-highs : goal.invariant-loop-highs
invariant-loop-highs l = record {
  rows : length l.table.items ≡ l.highs-index;
  each : (low : ℕ) → low < l.highs-index → length (slice_index_or l.table.items low []) ≡ length l.direct;
  marks : (low high : ℕ) → mark_at l.table.items low high ≡ stands high (slice_index_or (take l.highs-index l.direct) low []);
}
