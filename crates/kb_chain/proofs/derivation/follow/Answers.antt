use Rattle.std.proofs.Common.{◌∙◌, sym, Some, get_or}
use Rattle.std.proofs.lemmas.Bool.{MatchBool-at_true, MatchBool-at_false}
use Rattle.kb_chain.proofs.ChainLaws.{AreWithin-from, resolved_no_side, resolved_with, fold_step, fold_stops}
use Rattle.kb_chain.proofs.derivation.follow.Goals as goal

pub returns-in_default-clause-found : goal.returns-in_default-clause-found
returns-in_default-clause-found c =
    sym c.loop-step.invariant.rest
    ∙ fold_stops c.args.store.now.clauses c.loop-step.working.clause c.args.steps.now c.loop-step.step-index (0, 0) c.loop-step-test.true
    (resolved_no_side c.args.store.now.clauses c.loop-step.working.clause (get_or c.args.steps.now c.loop-step.step-index (0, 0)) (sym c.in_default.ensures.value))

pub resolve_with-requires : goal.resolve_with-requires
resolve_with-requires c =
    AreWithin-from c.args.store.now.vars c.loop-step.working.places c.in-Some.side.now (c.loop-step.invariant.places ∙ c.requires) c.in-Some.ensures.within

pub returns-then-not-branch-clause-found : goal.returns-then-not-branch-clause-found
returns-then-not-branch-clause-found c =
    sym c.loop-step.invariant.rest
    ∙ fold_stops c.args.store.now.clauses c.loop-step.working.clause c.args.steps.now c.loop-step.step-index (0, 0) c.loop-step-test.true
    (resolved_with c.args.store.now.clauses c.loop-step.working.clause (get_or c.args.steps.now c.loop-step.step-index (0, 0)) c.in-Some.side.now (sym c.in-Some.ensures.value)
    ∙ MatchBool-at_false _ _ c.if-not-branch.true c.in_ok-resolve_with.ensures.resolved)

pub loop-step-preserved : goal.loop-step-preserved
loop-step-preserved c = record {
  places = c.in_ok-resolve_with.ensures.places ∙ c.loop-step.invariant.places;
  rest =
      sym (fold_step c.args.store.now.clauses c.loop-step.working.clause c.args.steps.now c.loop-step.step-index (0, 0) (Some c.resolve_with.new.self.clause) c.loop-step-test.true
      (resolved_with c.args.store.now.clauses c.loop-step.working.clause (get_or c.args.steps.now c.loop-step.step-index (0, 0)) c.in-Some.side.now (sym c.in-Some.ensures.value)
      ∙ MatchBool-at_true _ _ c.if-not-branch.false c.in_ok-resolve_with.ensures.resolved))
      ∙ c.loop-step.invariant.rest;
}
