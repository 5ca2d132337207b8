use Rattle.std.proofs.Common.{◌≡◌, take}
use Rattle.kb_frames.proofs.state.copied_cells.Given as goal

abbrev pub invariant-loop-slots : goal.invariant-loop-slots
invariant-loop-slots l = l.copy ≡ take l.slots-index l.cells
