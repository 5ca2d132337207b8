use Rattle.std.proofs.Common.{◌≡◌, length}
use Rattle.std.specs.List.{list_all}
use Rattle.kb_classes.specs.Slots.{has_slot_type}
use Rattle.kb_drive.proofs.heap_methods.are_values.Given as goal

abbrev pub invariant-loop-rest : goal.invariant-loop-rest
invariant-loop-rest l = list_all has_slot_type l.rest ≡ list_all has_slot_type l.types

abbrev pub decreases-loop-rest : goal.decreases-loop-rest
decreases-loop-rest l = length l.rest
