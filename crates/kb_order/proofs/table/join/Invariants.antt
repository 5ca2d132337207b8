use Rattle.std.proofs.Common.{◌≡◌, ◌||◌, ℕ, false, length, slice_index_or, take}
use Rattle.kb_order.proofs.table.join.Given as goal

abbrev pub invariant-loop-high : goal.invariant-loop-high
invariant-loop-high l = record {
  all : length l.row ≡ length l.fn.row;
  marks : (k : ℕ) → slice_index_or l.row k false ≡ (slice_index_or l.fn.row k false || slice_index_or (take l.high l.through) k false);
}
