use Rattle.std.proofs.Common.{◌≡◌, ◌+◌, length}
use Rattle.kb_test.proofs.SameHeaps.{AreAlike}
use Rattle.kb_test.proofs.final_heap.FinalHeap.is_heap.Given as goal

abbrev pub invariant-loop-rest : goal.invariant-loop-rest
invariant-loop-rest l = record { alike : AreAlike l.self.objects l.other.objects l.number l.rest; counted : l.number + length l.rest ≡ length l.other.objects }

abbrev pub decreases-loop-rest : goal.decreases-loop-rest
decreases-loop-rest l = length l.rest
