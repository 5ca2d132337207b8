use Rattle.std.proofs.Common.{◌≡◌, ◌↔◌, length}
use Rattle.kb_names.proofs.same.are_same.Given as goal

abbrev pub invariant-loop-lefts : goal.invariant-loop-lefts
invariant-loop-lefts g l = (l.lefts ≡ l.rights) ↔ (l.left ≡ l.right)

abbrev pub decreases-loop-lefts : goal.decreases-loop-lefts
decreases-loop-lefts g l = length l.lefts
