use Rattle.std.proofs.Common.{◌≡◌, ℕ, length, Some, slice_get}
use Rattle.kb_resolution.specs.Tables.{IsSlotTableOf}
use Rattle.kb_resolution.proofs.tables.slot_tables.Given as goal

abbrev pub invariant-loop-number : goal.invariant-loop-number
invariant-loop-number l =
    (length l.tables.items ≡ l.number) × ((class : ℕ) (table : _) → slice_get l.tables.items class ≡ Some table → IsSlotTableOf l.linked l.numbers.classes.items class table)
