use Rattle.std.proofs.Common.{sym, ◌∙◌}
use Rattle.kb_picture.proofs.WriteLaws.{nothing_written}
use Rattle.kb_picture.proofs.ending.put_where_there.Goals as goal

pub returns-in_default : goal.returns-in_default
returns-in_default c = sym (nothing_written c.args.heap.now c.args.object c.args.slot c.args.value (sym c.find.ensures ∙ c.in_default.is))
