use Rattle.std.proofs.Common.{◌≡◌, ◌<◌, ◌≤◌, ◌-◌, true, false, length}
use Rattle.kb_chain.specs.Propagation.{UnitRefutes}
use Rattle.kb_propagate.specs.Base.{Stands, IsReady}
use Rattle.kb_sat.specs.Solver.{Equipped}
use Rattle.kb_sat.proofs.solver.search_to_end.Given as goal

abbrev pub invariant-loop-alloc : goal.invariant-loop-alloc
invariant-loop-alloc l = record {
  stands : Stands l.search.base;
  equipped : Equipped l.search;
  ready : IsReady l.search.base;
  formula : l.search.base.formula.now ≡ l.fn.search.base.formula.now;
  within : l.search.base.whole ≡ true → length l.search.base.entries ≤ l.fn.budget;
  open_still : l.search.base.whole ≡ true → 0 < length l.search.base.entries → UnitRefutes l.fn.search.base.formula.now.clauses → ⊥;
  kept : l.fn.lets_go ≡ false → l.search.base.whole ≡ l.fn.search.base.whole;
}

abbrev pub decreases-loop-alloc : goal.decreases-loop-alloc
decreases-loop-alloc l = l.fn.budget - length l.search.base.entries
