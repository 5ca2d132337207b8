use Rattle.std.proofs.Common.{◌≡◌, find, length}
use Rattle.kb_classes.specs.Subtypes.{fits}
use Rattle.kb_input.specs.Emitted.{first_fitting}
use Rattle.kb_input.proofs.fitting.first_fitting.Given as goal

abbrev pub invariant-loop-rest : goal.invariant-loop-rest
invariant-loop-rest l = find (λ kind. fits l.world kind l.kind) l.rest ≡ first_fitting l.world l.kind

abbrev pub decreases-loop-rest : goal.decreases-loop-rest
decreases-loop-rest l = length l.rest
