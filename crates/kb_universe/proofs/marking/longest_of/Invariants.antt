use Rattle.std.proofs.Common.{◌≡◌, max, length}
use Rattle.kb_universe.specs.Marks.{longest_of}
use Rattle.kb_universe.proofs.marking.longest_of.Given as goal

abbrev pub invariant-loop-rest : goal.invariant-loop-rest
invariant-loop-rest l = max l.longest (longest_of l.rest) ≡ longest_of l.types

abbrev pub decreases-loop-rest : goal.decreases-loop-rest
decreases-loop-rest l = length l.rest
