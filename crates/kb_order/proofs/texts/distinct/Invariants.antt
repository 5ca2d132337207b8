use Rattle.std.proofs.Common.{length}
use Rattle.kb_order.specs.Sorting.{IsTaken}
use Rattle.kb_order.proofs.texts.distinct.Given as goal

abbrev pub invariant-loop-text : goal.invariant-loop-text
invariant-loop-text l = IsTaken l.fn.texts.items l.taken.items l.left.items

abbrev pub decreases-loop-text : goal.decreases-loop-text
decreases-loop-text l = length l.left.items
