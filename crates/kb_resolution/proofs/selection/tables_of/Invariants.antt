use Rattle.std.proofs.Common.{◌≡◌, ℕ, length, Some, slice_get}
use Rattle.kb_resolution.specs.Tables.{IsSelection, selected_in}
use Rattle.kb_resolution.proofs.selection.tables_of.Given as goal

abbrev pub invariant-loop-number : goal.invariant-loop-number
invariant-loop-number l =
    (length l.tables.items ≡ l.number) × ((class : ℕ) (table : _) → slice_get l.tables.items class ≡ Some table → IsSelection l.linked class (selected_in table))
