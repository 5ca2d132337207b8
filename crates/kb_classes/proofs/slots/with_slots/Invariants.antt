use Rattle.std.proofs.Common.{◌≡◌, ◌++◌, length}
use Rattle.kb_classes.specs.Slots.{numbered, slots_among}
use Rattle.kb_classes.proofs.slots.with_slots.Given as goal

abbrev pub invariant-loop-rest : goal.invariant-loop-rest
invariant-loop-rest l = l.after ++ numbered (length l.after) (slots_among l.number l.rest) ≡ l.fn.slots ++ numbered (length l.fn.slots) (slots_among l.number l.fields)

abbrev pub decreases-loop-rest : goal.decreases-loop-rest
decreases-loop-rest l = length l.rest
