use Rattle.kb_resolution.specs.Tables.{IsSlotTableOf}
use Rattle.kb_resolution.proofs.RowLaws.{one_more_there}
use Rattle.kb_resolution.proofs.tables.slot_tables.Goals as goal

pub loop-number-preserved : goal.loop-number-preserved
loop-number-preserved c =
    one_more_there (λ class table. IsSlotTableOf c.args.linked.now c.args.numbers.now.classes.items class table) c.loop-number.tables.items c.push.new.self.items c.in_ok-table.table c.loop-number.number
    c.in_ok-push.ensures.items c.loop-number.invariant.0 c.loop-number.invariant.1 c.in_ok-table.ensures
