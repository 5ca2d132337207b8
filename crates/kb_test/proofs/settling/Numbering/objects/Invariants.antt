use Rattle.std.proofs.Common.{◌≡◌, take}
use Rattle.kb_test.specs.Tests.{objects_of}
use Rattle.kb_test.proofs.settling.Numbering.objects.Given as goal

abbrev pub invariant-loop-one : goal.invariant-loop-one
invariant-loop-one l = l.objects ≡ objects_of l.self.inputs l.self.literals (take l.one-index l.listed)
