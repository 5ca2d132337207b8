use Rattle.std.proofs.Common.{◌≡◌, ◌+◌, length}
use Rattle.kb_universe.specs.Marks.{class_types}
use Rattle.kb_universe.proofs.marking.class_count.Given as goal

abbrev pub invariant-loop-rest : goal.invariant-loop-rest
invariant-loop-rest l = l.count + length (class_types l.rest) ≡ length (class_types l.types)

abbrev pub decreases-loop-rest : goal.decreases-loop-rest
decreases-loop-rest l = length l.rest
