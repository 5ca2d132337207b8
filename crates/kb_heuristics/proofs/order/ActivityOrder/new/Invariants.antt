use Rattle.std.proofs.Common.{◌≡◌, ◌+◌, length}
use Rattle.kb_heuristics.proofs.order.ActivityOrder.new.Given as goal

abbrev pub invariant-loop-place : goal.invariant-loop-place
invariant-loop-place l = record {
  places : length l.places.items ≡ l.vars + 1;
  activities : length l.activities.items ≡ l.vars + 1;
}
