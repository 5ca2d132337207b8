use Rattle.std.proofs.Common.{◌≡◌, ◌++◌, Ok, map}
use Rattle.kb_workers.proofs.merging.gathered.Given as goal

abbrev pub invariant-loop-list : goal.invariant-loop-list
invariant-loop-list g l = map Ok l.lists ++ l.list-iterator.rest.items ≡ l.fn.done.items
