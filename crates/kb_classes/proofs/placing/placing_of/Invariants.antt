use Rattle.std.proofs.Common.{length}
use Rattle.kb_classes.proofs.Filling.{IsPlacedSoFar}
use Rattle.kb_classes.proofs.placing.placing_of.Given as goal

abbrev pub invariant-loop-rest : goal.invariant-loop-rest
invariant-loop-rest l = IsPlacedSoFar l.items l.size l.rest l.place l.table.items

abbrev pub decreases-loop-rest : goal.decreases-loop-rest
decreases-loop-rest l = length l.rest
