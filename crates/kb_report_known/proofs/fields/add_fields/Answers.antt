use Rattle.std.proofs.Common.{arith}
use Rattle.kb_report_known.proofs.TableLaws.{adds_done, adds_go}
use Rattle.kb_report_known.specs.Tables.{find_in}
use Rattle.kb_report_known.proofs.fields.add_fields.Goals as goal

pub loop-rest-preserved : goal.loop-rest-preserved
loop-rest-preserved c =
    adds_go c.args.named.now c.args.class.0 c.args.slots.now c.loop-rest.rest.now c.slot-item.result (find_in c.args.numbers.now) (find_in c.loop-rest.numbers) (find_in c.add_own.new.numbers)
    c.in-len1-up.len_at_least c.slot-item.is c.in_ok-add_own.ensures c.loop-rest.invariant

pub returns : goal.returns
returns c =
    adds_done c.args.named.now c.args.class.0 c.args.slots.now c.loop-rest.rest.now (find_in c.args.numbers.now) (find_in c.loop-rest.numbers) (omega (arith, c.in_default.len_below)) c.loop-rest.invariant
