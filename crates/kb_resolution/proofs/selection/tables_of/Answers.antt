use Rattle.kb_resolution.specs.Tables.{IsSelection, selected_in}
use Rattle.kb_resolution.proofs.RowLaws.{one_more_there}
use Rattle.kb_resolution.proofs.selection.tables_of.Goals as goal

pub loop-number-preserved : goal.loop-number-preserved
loop-number-preserved c =
    one_more_there (λ class table. IsSelection c.args.linked.now class (selected_in table)) c.loop-number.tables.items c.push.new.self.items c.in_ok-table.table c.loop-number.number c.in_ok-push.ensures.items
    c.loop-number.invariant.0 c.loop-number.invariant.1 c.in_ok-table.ensures
