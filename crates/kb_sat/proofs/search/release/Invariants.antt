use Rattle.std.proofs.Common.{◌≡◌, length}
use Rattle.kb_sat.proofs.search.release.Given as goal

abbrev pub invariant-loop-literal : goal.invariant-loop-literal
invariant-loop-literal l = record {
  order : l.order ≡ l.fn.order;
  phases : length l.phases.items ≡ length l.fn.phases.items;
}
