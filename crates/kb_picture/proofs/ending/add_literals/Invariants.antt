use Rattle.std.proofs.Common.{◌≡◌, ◌++◌, replicate}
use Rattle.kb_heap.specs.Heap.{literal}
use Rattle.kb_picture.proofs.ending.add_literals.Given as goal

abbrev pub invariant-loop : goal.invariant-loop
invariant-loop l = l.heap.objects ≡ l.fn.heap.objects ++ replicate l.counter literal
