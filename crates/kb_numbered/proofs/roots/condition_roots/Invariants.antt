use Rattle.std.proofs.Common.{◌≡◌, take, map}
use Rattle.kb_numbered.proofs.roots.condition_roots.Given as goal

abbrev pub invariant-loop-term : goal.invariant-loop-term
invariant-loop-term l = l.roots.items ≡ map (λ condition. condition.0) (take l.term-index l.when)
