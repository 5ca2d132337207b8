use Rattle.std.proofs.Common.{◌≡◌, ◌++◌, ◌-◌}
use Rattle.kb_workers.specs.Turns.{merged}
use Rattle.kb_workers.proofs.merging.merge.Given as goal

-- what is there, and then what is left to come
abbrev pub invariant-loop : goal.invariant-loop
invariant-loop g l = l.all.items ++ merged (l.count - l.counter) l.lists ≡ merged l.count l.fn.lists
