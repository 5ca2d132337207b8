use Rattle.std.proofs.Common.{[]}
use Rattle.kb_resolution.specs.Tables.{IsRow}
use Rattle.kb_resolution.proofs.RowLaws.{one_more}
use Rattle.kb_resolution.proofs.resolving.rows_of.Goals as goal

pub loop-number-preserved : goal.loop-number-preserved
loop-number-preserved c =
    one_more (IsRow c.args.linked.now) c.loop-number.rows.items c.push.new.self.items c.in_ok-row.row [] c.loop-number.number c.in_ok-push.ensures.items c.loop-number.invariant.0 c.loop-number.invariant.1
    c.in_ok-row.ensures
