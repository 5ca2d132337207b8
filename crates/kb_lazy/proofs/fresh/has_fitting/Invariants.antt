use Rattle.std.proofs.Common.{◌≡◌, length}
use Rattle.std.specs.List.{list_any}
use Rattle.kb_classes.specs.Subtypes.{fits}
use Rattle.kb_lazy.specs.Choices.{has_fitting}
use Rattle.kb_lazy.proofs.fresh.has_fitting.Given as goal

abbrev pub invariant-loop-rest : goal.invariant-loop-rest
invariant-loop-rest l = list_any (λ kind. fits l.world kind l.kind) l.rest ≡ has_fitting l.world l.kind

abbrev pub decreases-loop-rest : goal.decreases-loop-rest
decreases-loop-rest l = length l.rest
