use Rattle.std.proofs.Common.{◌≡◌, take}
use Rattle.kb_class.specs.Tables.{type_numbers}
use Rattle.kb_class.proofs.tables.type_numbers.Given as goal

abbrev pub invariant-loop-entry : goal.invariant-loop-entry
invariant-loop-entry l = l.numbers ≡ type_numbers (take l.entry-index l.pool)
