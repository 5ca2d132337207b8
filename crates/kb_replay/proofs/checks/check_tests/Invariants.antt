use Rattle.std.proofs.Common.{take}
use Rattle.kb_replay.specs.Replays.{AreRunnable, AreAccepted}
use Rattle.kb_replay.proofs.checks.check_tests.Given as goal

abbrev pub invariant-loop-test : goal.invariant-loop-test
invariant-loop-test l = AreRunnable l.world (take l.test-index l.tests) l.methods × AreAccepted l.world l.reached.items
