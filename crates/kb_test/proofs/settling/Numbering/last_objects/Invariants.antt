use Rattle.std.proofs.Common.{◌≡◌, ◌++◌, length}
use Rattle.kb_test.specs.Tests.{last_objects}
use Rattle.kb_test.proofs.settling.Numbering.last_objects.Given as goal

abbrev pub invariant-loop-kinds : goal.invariant-loop-kinds
invariant-loop-kinds l = l.objects ++ last_objects l.self.inputs l.self.literals l.kinds l.rest ≡ last_objects l.self.inputs l.self.literals l.inputs l.outs

abbrev pub decreases-loop-kinds : goal.decreases-loop-kinds
decreases-loop-kinds l = length l.rest
