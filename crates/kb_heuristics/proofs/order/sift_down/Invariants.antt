use Rattle.std.proofs.Common.{◌<◌, ◌-◌, length}
use Rattle.kb_heuristics.specs.Order.{HavePlaces}
use Rattle.kb_heuristics.proofs.order.sift_down.Given as goal

abbrev pub invariant-loop-child : goal.invariant-loop-child
invariant-loop-child l = record {
  inside : l.place < length l.heap;
  variables : HavePlaces (length l.activities) l.heap;
}

abbrev pub decreases-loop-child : goal.decreases-loop-child
decreases-loop-child l = length l.initial.heap - l.place
