use Rattle.std.proofs.Common.{◌≡◌, ◌<◌, ℕ, [], length, slice_index_or}
use Rattle.kb_resolution.specs.Tables.{IsRow}
use Rattle.kb_resolution.proofs.resolving.rows_of.Given as goal

abbrev pub invariant-loop-number : goal.invariant-loop-number
invariant-loop-number l = (length l.rows.items ≡ l.number) × ((k : ℕ) → k < l.number → IsRow l.linked k (slice_index_or l.rows.items k []))
