use Rattle.std.proofs.Common.{◌≡◌, ◌++◌, length}
use Rattle.kb_input.proofs.arguments.push_copies.Given as goal

abbrev pub invariant-loop-rest : goal.invariant-loop-rest
invariant-loop-rest l = l.types ++ l.rest ≡ l.fn.types ++ l.params

abbrev pub decreases-loop-rest : goal.decreases-loop-rest
decreases-loop-rest l = length l.rest
