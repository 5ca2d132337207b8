use Rattle.std.proofs.Common.{◌≡◌, ◌++◌, length}
use Rattle.kb_input.specs.Emitted.{own_objects}
use Rattle.kb_input.specs.Fitting.{AreFitting}
use Rattle.kb_input.proofs.objects.push_own.Given as goal

abbrev pub invariant-loop-rest : goal.invariant-loop-rest
invariant-loop-rest l =
    AreFitting l.world l.known
    × (l.objects ++ own_objects l.world l.target l.picture l.rest ≡ l.fn.objects ++ own_objects l.world l.target l.picture l.picture.seen)

abbrev pub decreases-loop-rest : goal.decreases-loop-rest
decreases-loop-rest l = length l.rest
