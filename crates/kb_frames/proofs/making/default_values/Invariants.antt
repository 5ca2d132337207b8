use Rattle.std.proofs.Common.{◌≡◌, map, take}
use Rattle.kb_classes.specs.declared.slots.FieldSlot.{FieldSlot}
use Rattle.kb_frames.specs.Making.{default_sym}
use Rattle.kb_frames.proofs.making.default_values.Given as goal

abbrev pub invariant-loop-slot : goal.invariant-loop-slot
invariant-loop-slot l = l.values ≡ map (λ (slot : FieldSlot). default_sym l.zero slot.kind) (take l.slot-index l.slots)
