use Rattle.std.proofs.Common.{◌≡◌, length}
use Rattle.kb_heuristics.specs.Order.{HavePlaces}
use Rattle.kb_heuristics.proofs.order.Listed.push_up_to.Given as goal

abbrev pub invariant-loop-variable : goal.invariant-loop-variable
invariant-loop-variable l = record {
  places : HavePlaces (length l.self.is_there.items) l.self.variables.items;
  size : length l.self.is_there.items ≡ length l.initial.self.is_there.items;
}
