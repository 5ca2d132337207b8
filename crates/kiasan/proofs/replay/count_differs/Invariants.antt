use Rattle.std.proofs.Common.{length}
use Rattle.kiasan.proofs.ReplayLaws.{AreCounted}
use Rattle.kiasan.proofs.replay.count_differs.Given as goal

abbrev pub invariant-loop-rest : goal.invariant-loop-rest
invariant-loop-rest l = AreCounted l.rest l.replayed l.count

abbrev pub decreases-loop-rest : goal.decreases-loop-rest
decreases-loop-rest l = length l.rest
