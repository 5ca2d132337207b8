use Rattle.std.proofs.Common.{arith}
use Rattle.kb_diagram.specs.Tables.{cell_in, written_cell}
use Rattle.kb_diagram.proofs.CellLaws.{goes_more, goes_done}
use Rattle.kb_diagram.proofs.cells.put_writes.Goals as goal

pub loop-rest-preserved : goal.loop-rest-preserved
loop-rest-preserved c =
    goes_more written_cell (cell_in c.args.cells.now) (cell_in c.loop-rest.cells) (cell_in c.put_write.new.cells) c.args.writes.now c.loop-rest.rest.now _ c.in-len1-up.len_at_least
    c.loop-rest.invariant c.in_ok-put_write.ensures

pub returns : goal.returns
returns c =
    goes_done written_cell (cell_in c.args.cells.now) (cell_in c.loop-rest.cells) c.args.writes.now c.loop-rest.rest.now (omega (arith, c.in_default.len_below)) c.loop-rest.invariant
