use Rattle.std.proofs.Common.{length}
use Rattle.kb_diagram.specs.Tables.{cell_in, seen_cell}
use Rattle.kb_diagram.proofs.CellLaws.{Goes}
use Rattle.kb_diagram.proofs.cells.put_seen.Given as goal

abbrev pub invariant-loop-rest : goal.invariant-loop-rest
invariant-loop-rest l = Goes (seen_cell l.locs) (cell_in l.fn.cells) (cell_in l.cells) l.seen l.rest

abbrev pub decreases-loop-rest : goal.decreases-loop-rest
decreases-loop-rest l = length l.rest
