use Rattle.std.proofs.Common.{◌≡◌, ◌∙◌, ◌+◌, ◌*◌, ap, sym, subst, List, Bool, Some, slice_get}
use Rattle.std.proofs.lemmas.Bool.{OnTrue_at, OnFalse_at}
use Rattle.std.proofs.lemmas.List.{take_all}
use Rattle.std.proofs.lemmas.Option.{slice_get-get_or}
use Rattle.kb_chain.specs.Literal.{Literal}
use Rattle.kb_chain.specs.Cnf.{Cnf, AllWithin}
use Rattle.kb_chain.specs.Propagation.{IsClosed, Includes}
use Rattle.kb_chain.proofs.ChainLaws.{AllWithin-get, AreWithin-from}
use Rattle.kb_chain.proofs.FreshnessLaws.{AreSettled_begin, root_from, refuted_from}
use Rattle.kb_chain.proofs.freshness.begin.Goals as goal
use Rattle.kb_chain.proofs.freshness.begin.Goals.{After-clause-item, In_ok-examine}

-- the clause is the formula's
at_number : (c : After-clause-item) → slice_get c.clauses-clause-items.result.now c.loop-clause.clause-index ≡ Some c.clause-item.result
at_number c = slice_get-get_or c.clauses-clause-items.result.now c.loop-clause.clause-index c.clause-item.result c.loop-clause-test.true ∙ ap Some (sym c.clause-item.is)

in_store : (c : After-clause-item) → slice_get c.args.store.now.clauses c.loop-clause.clause-index ≡ Some c.clause-item.result
in_store c =
    ap (λ (z : Cnf). slice_get z.clauses c.loop-clause.clause-index) c.requires.formula
    ∙ (ap (λ (z : List (List Literal)). slice_get z c.loop-clause.clause-index) (sym c.clauses-clause-items.ensures.value) ∙ at_number c)

least : (c : In_ok-examine) → slice_get c.args.store.now.clauses c.loop-clause.clause-index ≡ Some c.clause-item.result
    → (set : Literal → Bool) → IsClosed c.args.store.now.clauses set → Includes set c.examine.new.trail.literals
least c at set closed =
    c.in_ok-examine.ensures.least set (λ l i o. closed c.loop-clause.clause-index c.clause-item.result at l i o)
    (c.loop-clause.invariant.least set closed)

pub examine-requires : goal.examine-requires
examine-requires c =
    AreWithin-from c.args.formula.now.vars c.loop-clause.trail.places c.clause-item.result
    (c.loop-clause.invariant.places ∙ (c.requires.places ∙ ap (λ (z : Cnf). 2 * z.vars + 2) c.requires.formula))
    (AllWithin-get c.args.formula.now.vars c.clauses-clause-items.result.now c.loop-clause.clause-index c.clause-item.result
    (at_number (goal.at.examine-requires c).After-clause-item)
    (subst (λ (z : List (List Literal)). AllWithin c.args.formula.now.vars z) (sym c.clauses-clause-items.ensures.value) c.clauses-clause-items.ensures.within))

pub returns-then-not-branch-clause-refuted : goal.returns-then-not-branch-clause-refuted
returns-then-not-branch-clause-refuted c = record {
  negated = (
    c.loop-clause.clause-index,
    c.clause-item.result,
    in_store (goal.at.returns-then-not-branch-clause-refuted c).After-clause-item,
    OnFalse_at c.if-not-branch.true c.in_ok-examine.ensures.negated,
  );
  least = least (goal.at.returns-then-not-branch-clause-refuted c).In_ok-examine (in_store (goal.at.returns-then-not-branch-clause-refuted c).After-clause-item);
}

pub loop-clause-preserved : goal.loop-clause-preserved
loop-clause-preserved c = record {
  places = c.in_ok-examine.ensures.places ∙ c.loop-clause.invariant.places;
  settled = AreSettled_begin c.clauses-clause-items.result.now c.loop-clause.clause-index c.clause-item.result c.loop-clause.trail.literals c.examine.new.trail.literals
      c.loop-clause-test.true c.clause-item.is c.in_ok-examine.ensures.extended c.loop-clause.invariant.settled
      (OnTrue_at c.if-not-branch.false c.in_ok-examine.ensures.settled);
  least = least (goal.at.loop-clause-preserved c).In_ok-examine (in_store (goal.at.loop-clause-preserved c).After-clause-item);
}

pub propagate-requires-clause-settled : goal.propagate-requires-clause-settled
propagate-requires-clause-settled c k clause e =
    c.loop-clause.invariant.settled k clause
    (ap (λ (z : List (List Literal)). slice_get z k) (take_all c.loop-clause.clause-index c.clauses-clause-items.result.now c.loop-clause-test.false
    ∙ (c.clauses-clause-items.ensures.value ∙ ap (λ (z : Cnf). z.clauses) (sym c.requires.formula))) ∙ e)

pub returns-clause-root : goal.returns-clause-root
returns-clause-root c =
    root_from c.propagate.result c.args.store.now.clauses c.loop-clause.trail.literals c.propagate.new.trail.literals c.propagate.ensures.settled c.propagate.ensures.least
    c.loop-clause.invariant.least

pub returns-clause-refuted : goal.returns-clause-refuted
returns-clause-refuted c =
    refuted_from c.propagate.result c.args.store.now.clauses c.loop-clause.trail.literals c.propagate.new.trail.literals c.propagate.ensures.negated c.propagate.ensures.least
    c.loop-clause.invariant.least
