use Rattle.std.proofs.Common.{◌≡◌}
use Rattle.kb_heuristics.proofs.decision.most_active.Given as goal

abbrev pub invariant-loop : goal.invariant-loop
invariant-loop l = l.order ≡ l.fn.order
