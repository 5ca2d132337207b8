use Rattle.std.proofs.Common.{◌≡◌, ◌++◌, length}
use Rattle.std.specs.List.{filter_map}
use Rattle.kb_picture.specs.Instances.{variable_value}
use Rattle.kb_picture.specs.Places.{slot_value}
use Rattle.kb_picture.proofs.values.variable_values.Given as goal

abbrev pub invariant-loop-rest : goal.invariant-loop-rest
invariant-loop-rest l = l.values ++ filter_map (λ slot. variable_value (slot_value l.input l.places slot.0) slot.1) l.rest ≡ filter_map (λ slot. variable_value (slot_value l.input l.places slot.0) slot.1) l.picture.seen

abbrev pub decreases-loop-rest : goal.decreases-loop-rest
decreases-loop-rest l = length l.rest
