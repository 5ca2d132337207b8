use Rattle.std.proofs.Common.{◌≡◌, ◌++◌, replicate}
use Rattle.kb_heap.specs.Heap.{literal}
use Rattle.kb_machine.proofs.machine.first_heap.Given as goal

abbrev pub invariant-loop : goal.invariant-loop
invariant-loop l = l.first.objects ≡ l.heap.objects ++ replicate l.counter literal
