use Rattle.std.proofs.Common.{◌≡◌, ◌++◌, ◌-◌, length, reverse, take}
use Rattle.std.specs.List.{flat_map}
use Rattle.kb_classes.specs.Slots.{numbered, own_slots_at, slots_along}
use Rattle.kb_classes.proofs.slots.slots_along.Given as goal

abbrev pub invariant-loop-back : goal.invariant-loop-back
invariant-loop-back l = l.slots ++ numbered (length l.slots) (flat_map (own_slots_at l.classes) (reverse (take (length l.chain - l.back) l.chain))) ≡ slots_along l.classes l.chain
