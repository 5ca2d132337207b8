use Rattle.std.proofs.Common.{length}
use Rattle.kb_diagram.specs.Tables.{cell_in, written_cell}
use Rattle.kb_diagram.proofs.CellLaws.{Goes}
use Rattle.kb_diagram.proofs.cells.put_writes.Given as goal

abbrev pub invariant-loop-rest : goal.invariant-loop-rest
invariant-loop-rest l = Goes written_cell (cell_in l.fn.cells) (cell_in l.cells) l.writes l.rest

abbrev pub decreases-loop-rest : goal.decreases-loop-rest
decreases-loop-rest l = length l.rest
