use Rattle.std.proofs.Common.{◌≡◌, ◌++◌, filter, length}
use Rattle.std.specs.List.{flat_map}
use Rattle.kb_classes.specs.Subtypes.{fits}
use Rattle.kb_lazy.specs.Choices.{all_new, new_objects}
use Rattle.kb_lazy.proofs.fresh.push_new.Given as goal

abbrev pub invariant-loop-rest : goal.invariant-loop-rest
invariant-loop-rest l =
    l.choices ++ flat_map (new_objects l.array) (filter (λ kind. fits l.world kind l.kind) l.rest) ≡ l.fn.choices ++ all_new l.world l.kind l.array

abbrev pub decreases-loop-rest : goal.decreases-loop-rest
decreases-loop-rest l = length l.rest
