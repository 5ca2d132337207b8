use Rattle.std.proofs.Common.{length, ◌-◌, ◌≤◌}
use Rattle.kb_report_known.specs.Tables.{most_in, AreFew, AreMost}
use Rattle.kb_report_known.proofs.fields.most_of.Given as goal

abbrev pub invariant-loop-slots : goal.invariant-loop-slots
invariant-loop-slots l = AreMost l.world l.number (most_in l.most) × (l.number ≤ length l.world.classes) × AreFew l.world l.number

abbrev pub decreases-loop-slots : goal.decreases-loop-slots
decreases-loop-slots l = length l.world.classes - l.number
