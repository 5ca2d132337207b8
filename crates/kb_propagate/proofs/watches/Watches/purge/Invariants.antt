use Rattle.std.proofs.Common.{◌≡◌, ◌++◌, map, take, drop}
use Rattle.kb_propagate.specs.Forgetting.{only_awake}
use Rattle.kb_propagate.proofs.watches.Watches.purge.Given as goal

abbrev pub invariant-loop-list : goal.invariant-loop-list
invariant-loop-list l =
    l.list-items ≡ map (only_awake l.clauses) (take l.list-index l.initial.list-items) ++ drop l.list-index l.initial.list-items
