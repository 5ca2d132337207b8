use Rattle.kb_propagate.specs.Base.{Stands, IsReady, Forgets}
use Rattle.kb_sat.specs.Solver.{Equipped}
use Rattle.kb_sat.proofs.forgetting.delete_all.Given as goal

abbrev pub invariant-loop-candidate : goal.invariant-loop-candidate
invariant-loop-candidate l = record {
  stands : Stands l.search.base;
  equipped : Equipped l.search;
  ready : IsReady l.search.base;
  forgets : Forgets l.initial.search.base l.search.base;
}
