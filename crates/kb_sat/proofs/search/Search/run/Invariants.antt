use Rattle.std.proofs.Common.{◌+◌, ◌-◌, ◌*◌, length}
use Rattle.kb_propagate.specs.Base.{IsReady}
use Rattle.kb_sat.specs.Solver.{Keeps}
use Rattle.kb_sat.proofs.search.Search.run.Given as goal

abbrev pub invariant-loop-number : goal.invariant-loop-number
invariant-loop-number l = record {
  keeps : Keeps l.fn.self l.self;
  ready : IsReady l.self.base;
}

abbrev pub decreases-loop-number : goal.decreases-loop-number
decreases-loop-number l = 2 * l.self.base.trail.vars + 2 - length l.self.base.trail.literals
