use Rattle.std.proofs.Common.{◌≡◌, ◌++◌, length}
use Rattle.kb_stated.specs.Stated.{slot_writes}
use Rattle.kb_stated.proofs.stated.add_slots.Given as goal

abbrev pub invariant-loop-rest : goal.invariant-loop-rest
invariant-loop-rest l = l.writes ++ slot_writes l.state.picture.locs l.kind l.number l.slot l.rest ≡ l.fn.writes ++ slot_writes l.state.picture.locs l.kind l.number 0 l.slots

abbrev pub decreases-loop-rest : goal.decreases-loop-rest
decreases-loop-rest l = length l.rest
