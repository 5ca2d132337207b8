use Rattle.std.proofs.Common.{length, ◌-◌}
use Rattle.kb_report_known.specs.Tables.{find_in, AreFields}
use Rattle.kb_report_known.proofs.fields.numbers_of.Given as goal

abbrev pub invariant-loop-alloc : goal.invariant-loop-alloc
invariant-loop-alloc l = AreFields l.world l.number (find_in l.numbers)

abbrev pub decreases-loop-alloc : goal.decreases-loop-alloc
decreases-loop-alloc l = length l.world.classes - l.number
