use Rattle.std.proofs.Common.{◌≡◌, ℕ, false, length, slice_index_or, take}
use Rattle.kb_order.specs.Order.{stands}
use Rattle.kb_order.proofs.table.direct_row.Given as goal

abbrev pub invariant-loop-high : goal.invariant-loop-high
invariant-loop-high l = record {
  all : length l.row ≡ l.size;
  marks : (k : ℕ) → slice_index_or l.row k false ≡ stands k (take l.high-index l.highs);
}
