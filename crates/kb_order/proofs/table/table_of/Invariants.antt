use Rattle.std.proofs.Common.{length}
use Rattle.kb_order.specs.Table.{IsSquare, IsClosedBelow}
use Rattle.kb_order.proofs.table.table_of.Given as goal

abbrev pub invariant-loop-middle : goal.invariant-loop-middle
invariant-loop-middle l = record { square : IsSquare (length l.direct) l.table.items; closed : IsClosedBelow l.direct l.middle l.table.items }
