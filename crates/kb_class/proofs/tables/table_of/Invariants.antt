use Rattle.std.proofs.Common.{take}
use Rattle.kb_class.specs.Tables.{IsTable}
use Rattle.kb_class.proofs.tables.table_of.Given as goal

abbrev pub invariant-loop-number : goal.invariant-loop-number
invariant-loop-number g l = IsTable g.T.Spelled.spells l.file.pool (take l.number-index l.numbers) l.table
