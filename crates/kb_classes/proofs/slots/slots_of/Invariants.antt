use Rattle.std.proofs.Common.{◌≡◌, map, take}
use Rattle.kb_classes.specs.Slots.{slots_along}
use Rattle.kb_classes.proofs.slots.slots_of.Given as goal

abbrev pub invariant-loop-chain : goal.invariant-loop-chain
invariant-loop-chain l = l.slots.items ≡ map (slots_along l.classes) (take l.chain-index l.chains)
