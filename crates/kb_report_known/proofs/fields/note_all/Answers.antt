use Rattle.std.proofs.Common.{arith}
use Rattle.kb_report_known.proofs.TableLaws.{notes_done, notes_go}
use Rattle.kb_report_known.specs.Tables.{most_in}
use Rattle.kb_report_known.proofs.fields.note_all.Goals as goal

pub loop-rest-preserved : goal.loop-rest-preserved
loop-rest-preserved c =
    notes_go c.args.slots.now c.loop-rest.rest.now c.slot-item.result c.args.count (most_in c.args.most.now) (most_in c.loop-rest.most) (most_in c.note_count.new.most)
    c.in-len1-up.len_at_least c.slot-item.is c.in_ok-note_count.ensures c.loop-rest.invariant

pub returns : goal.returns
returns c = notes_done c.args.slots.now c.loop-rest.rest.now c.args.count (most_in c.args.most.now) (most_in c.loop-rest.most) (omega (arith, c.in_default.len_below)) c.loop-rest.invariant
