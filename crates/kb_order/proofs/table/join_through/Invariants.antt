use Rattle.std.proofs.Common.{◌≡◌, ◌<◌, ◌≤◌, ℕ, [], length, slice_index_or}
use Rattle.kb_order.specs.Table.{mark_at, joined_row, IsSquare}
use Rattle.kb_order.proofs.table.join_through.Given as goal

abbrev pub invariant-loop-low : goal.invariant-loop-low
invariant-loop-low l = record {
  square : IsSquare (length l.fn.table.items) l.table.items;
  through : l.through ≡ slice_index_or l.fn.table.items l.middle [];
  done : (low high : ℕ) → low < l.low → mark_at l.table.items low high ≡ joined_row (slice_index_or l.fn.table.items low []) l.middle l.through high;
  rest : (low : ℕ) → l.low ≤ low → slice_index_or l.table.items low [] ≡ slice_index_or l.fn.table.items low [];
}
