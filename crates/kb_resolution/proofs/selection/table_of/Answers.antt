use Rattle.kb_classes.specs.World.{chain_of}
use Rattle.kb_resolution.specs.Tables.{selected_in}
use Rattle.kb_resolution.proofs.SelectionLaws.{left_step, left_last}
use Rattle.kb_resolution.proofs.selection.table_of.Goals as goal

pub loop-rest-preserved : goal.loop-rest-preserved
loop-rest-preserved c =
    left_step c.args.linked.now (chain_of c.args.linked.now c.args.class.0) (selected_in c.loop-rest.table) (selected_in c.add_class.new.table) c.loop-rest.rest.now c.in-len1-up.len_at_least
    c.loop-rest.invariant c.in_ok-add_class.ensures

pub returns : goal.returns
returns c = left_last c.args.linked.now (chain_of c.args.linked.now c.args.class.0) (selected_in c.loop-rest.table) c.loop-rest.rest.now c.in_default.len_below c.loop-rest.invariant
