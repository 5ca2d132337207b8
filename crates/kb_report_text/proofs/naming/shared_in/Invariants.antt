use Rattle.std.proofs.Common.{take, length, ◌-◌}
use Rattle.kb_report_text.specs.Tables.{AreShared}
use Rattle.kb_report_text.proofs.naming.shared_in.Given as goal

abbrev pub invariant-loop-class : goal.invariant-loop-class
invariant-loop-class l = AreShared (take l.number l.world.classes) l.tables.items

abbrev pub decreases-loop-class : goal.decreases-loop-class
decreases-loop-class l = length l.world.classes - l.number
