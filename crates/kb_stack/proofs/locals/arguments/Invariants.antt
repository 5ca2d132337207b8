use Rattle.std.proofs.Common.{◌≡◌, map, take, Some}
use Rattle.kb_stack.proofs.locals.arguments.Given as goal

abbrev pub invariant-loop-value : goal.invariant-loop-value
invariant-loop-value l = l.locals.items ≡ map (λ v. Some v) (take l.value-index l.args)
