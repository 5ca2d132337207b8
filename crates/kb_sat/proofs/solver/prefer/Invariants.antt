use Rattle.std.proofs.Common.{◌≡◌}
use Rattle.kb_sat.proofs.solver.prefer.Given as goal

abbrev pub invariant-loop-variable : goal.invariant-loop-variable
invariant-loop-variable l = l.order ≡ l.fn.order
