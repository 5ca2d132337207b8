use Rattle.std.proofs.Common.{length}
use Rattle.kb_trail.proofs.Undoing.{IsUndoing}
use Rattle.kb_trail.proofs.trail.Trail.undo_to.Given as goal

abbrev pub invariant-loop-self : goal.invariant-loop-self
invariant-loop-self g l = IsUndoing l.fn.self l.fn.cells.items l.fn.mark l.self-inside.entries.items l.cells.items

abbrev pub decreases-loop-self : goal.decreases-loop-self
decreases-loop-self g l = length l.self-inside.entries.items
