use Rattle.std.proofs.Common.{◌≡◌, length}
use Rattle.kb_stepcall.specs.Operands.{are_of_kinds}
use Rattle.kb_stepcall.proofs.operands.are_of_kinds.Given as goal

abbrev pub invariant-loop-of : goal.invariant-loop-of
invariant-loop-of l = are_of_kinds l.of l.rest ≡ are_of_kinds l.params l.values

abbrev pub decreases-loop-of : goal.decreases-loop-of
decreases-loop-of l = length l.of
