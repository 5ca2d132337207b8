use Rattle.std.proofs.Common.{length}
use Rattle.kb_code.proofs.Marking.{IsMarkedSoFar}
use Rattle.kb_code.proofs.placing.table_of.Given as goal

abbrev pub invariant-loop-rest : goal.invariant-loop-rest
invariant-loop-rest l = IsMarkedSoFar l.items l.size l.rest l.table.items

abbrev pub decreases-loop-rest : goal.decreases-loop-rest
decreases-loop-rest l = length l.rest
