use Rattle.std.proofs.Common.{◌≡◌, ◌++◌, length}
use Rattle.kb_blast.specs.Query.{roots_of}
use Rattle.kb_blast.proofs.conditions.roots_of.Given as goal

abbrev pub invariant-loop-rest : goal.invariant-loop-rest
invariant-loop-rest l = l.roots.items ++ roots_of l.rest ≡ roots_of l.when

abbrev pub decreases-loop-rest : goal.decreases-loop-rest
decreases-loop-rest l = length l.rest
