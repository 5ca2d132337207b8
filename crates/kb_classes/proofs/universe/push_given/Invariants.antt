use Rattle.std.proofs.Common.{◌≡◌, ◌++◌, length}
use Rattle.kb_classes.specs.Universe.{given_types}
use Rattle.kb_classes.proofs.universe.push_given.Given as goal

abbrev pub invariant-loop-rest : goal.invariant-loop-rest
invariant-loop-rest l = l.universe ++ given_types l.rest ≡ l.fn.universe ++ given_types l.classes

abbrev pub decreases-loop-rest : goal.decreases-loop-rest
decreases-loop-rest l = length l.rest
