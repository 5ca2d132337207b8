use Rattle.std.proofs.Common.{length}
use Rattle.kb_test.specs.Tests.{AreTests}
use Rattle.test_rows.proofs.answers.written.Given as goal

abbrev pub invariant-loop-rest : goal.invariant-loop-rest
invariant-loop-rest l = AreTests l.literals l.rest

abbrev pub decreases-loop-rest : goal.decreases-loop-rest
decreases-loop-rest l = length l.rest
