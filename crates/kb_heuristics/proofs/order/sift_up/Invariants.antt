use Rattle.std.proofs.Common.{◌<◌, length}
use Rattle.kb_heuristics.specs.Order.{HavePlaces}
use Rattle.kb_heuristics.proofs.order.sift_up.Given as goal

abbrev pub invariant-loop-place : goal.invariant-loop-place
invariant-loop-place l = record {
  inside : l.place < length l.heap;
  variables : HavePlaces (length l.activities) l.heap;
}

abbrev pub decreases-loop-place : goal.decreases-loop-place
decreases-loop-place l = l.place
