use Rattle.std.proofs.Common.{arith}
use Rattle.kb_diagram.specs.Tables.{cell_in, seen_cell}
use Rattle.kb_diagram.proofs.CellLaws.{goes_more, goes_done}
use Rattle.kb_diagram.proofs.cells.put_seen.Goals as goal

pub loop-rest-preserved : goal.loop-rest-preserved
loop-rest-preserved c =
    goes_more (seen_cell c.args.locs.now) (cell_in c.args.cells.now) (cell_in c.loop-rest.cells) (cell_in c.put_slot.new.cells) c.args.seen.now c.loop-rest.rest.now _
    c.in-len1-up.len_at_least c.loop-rest.invariant c.in_ok-put_slot.ensures

pub returns : goal.returns
returns c =
    goes_done (seen_cell c.args.locs.now) (cell_in c.args.cells.now) (cell_in c.loop-rest.cells) c.args.seen.now c.loop-rest.rest.now (omega (arith, c.in_default.len_below)) c.loop-rest.invariant
