use Rattle.std.proofs.Common.{◌≡◌, ◌<◌, ℕ, length, slice_index_or}
use Rattle.kb_resolution.specs.Tables.{IsKnown, IsResolved, nothing}
use Rattle.kb_resolution.proofs.resolving.row_by.Given as goal

abbrev pub invariant-loop-entry : goal.invariant-loop-entry
invariant-loop-entry l =
    (length l.row ≡ l.entry) × ((k : ℕ) → k < l.entry → IsResolved l.linked l.class k (slice_index_or l.row k nothing)) × IsKnown l.linked l.class l.numbers.texts l.known
