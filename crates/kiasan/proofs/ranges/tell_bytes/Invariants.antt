use Rattle.std.proofs.Common.{length}
use Rattle.kb_names.specs.Bytes.{AreBytes}
use Rattle.kiasan.proofs.ranges.tell_bytes.Given as goal

abbrev pub invariant-loop-rest : goal.invariant-loop-rest
invariant-loop-rest l = AreBytes l.rest → AreBytes l.bytes

abbrev pub decreases-loop-rest : goal.decreases-loop-rest
decreases-loop-rest l = length l.rest
