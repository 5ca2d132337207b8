use Rattle.std.proofs.Common.{◌≡◌, drop, fold, Some}
use Rattle.kb_chain.specs.Chains.{resolved}
use Rattle.kb_chain.proofs.derivation.follow.Given as goal

abbrev pub invariant-loop-step : goal.invariant-loop-step
invariant-loop-step l = record {
  places : l.working.places ≡ l.fn.working.places;
  rest : fold (resolved l.store.clauses) (Some l.working.clause) (drop l.step-index l.steps)
      ≡ fold (resolved l.store.clauses) (Some l.fn.working.clause) l.steps;
}
