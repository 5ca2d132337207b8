use Rattle.std.proofs.Common.{◌∙◌, ap, sym, subst, List, Bool, map, not, inl, inr, take, length}
use Rattle.std.proofs.lemmas.Bool.{OnTrue_from, OnFalse_from, OnTrue_at, OnFalse_at, or_cases, or_right, not-true, not-false}
use Rattle.kb_chain.specs.Literal.{Literal, has, negated}
use Rattle.kb_chain.specs.Propagation.{others, Misses, Includes, IsClosed}
use Rattle.kb_chain.specs.Index.{AreSettled}
use Rattle.kb_chain.proofs.PropagationLaws.{IsFrontOf-part, IsFrontOf-length, IsFrontOf-trans, AreSettled_more, settled_closed, settled_quiet}
use Rattle.kb_chain.proofs.FreshnessLaws.{Misses-from, not_missed, not_consistent}
use Rattle.kb_chain.proofs.freshness.goes_on.Goals as goal
use Rattle.kb_chain.proofs.freshness.goes_on.Goals.{In_ok-propagate}

pub propagate-requires-clause-inside : goal.propagate-requires-clause-inside
propagate-requires-clause-inside c =
    rw (c.literals-root.ensures.value) (IsFrontOf-length c.args.trail.now.literals c.assume_others.new.trail.literals c.in_ok-assume_others.ensures.extended)

pub propagate-requires-clause-settled : goal.propagate-requires-clause-settled
propagate-requires-clause-settled c =
    subst (λ (z : List Literal). AreSettled c.args.store.now.clauses z c.assume_others.new.trail.literals)
    (sym (ap (λ (z : List Literal). take (length z) c.assume_others.new.trail.literals) c.literals-root.ensures.value ∙ c.in_ok-assume_others.ensures.extended))
    (AreSettled_more c.args.store.now.clauses c.args.trail.now.literals c.args.trail.now.literals c.assume_others.new.trail.literals
    (IsFrontOf-part c.args.trail.now.literals c.assume_others.new.trail.literals c.in_ok-assume_others.ensures.extended) c.requires.root.settled)

least : (c : In_ok-propagate) (set : Literal → Bool) → IsClosed c.args.store.now.clauses set
    → Includes set (map negated (others c.args.literal c.args.clause.now)) → Includes set c.propagate.new.trail.literals
least c set closed includes =
    c.in_ok-propagate.ensures.least set closed
    (λ m i. elim (or_cases _ _ (sym (c.in_ok-assume_others.ensures.has m) ∙ i)) [
      | inl s ↦ c.requires.root.least set closed m s
      | inr s ↦ includes m s
    ])

pub returns-then-not-branch-clause-reached : goal.returns-then-not-branch-clause-reached
returns-then-not-branch-clause-reached c =
    not_consistent c.args.store.now.clauses c.args.clause.now c.args.literal c.propagate.new.trail.literals (least (goal.at.returns-then-not-branch-clause-reached c).In_ok-propagate)
    (OnFalse_at c.if-not-branch.true c.in_ok-propagate.ensures.negated)

pub returns-then-not-branch-clause-extended : goal.returns-then-not-branch-clause-extended
returns-then-not-branch-clause-extended c =
    IsFrontOf-trans c.args.trail.now.literals c.assume_others.new.trail.literals c.propagate.new.trail.literals
    c.in_ok-assume_others.ensures.extended c.in_ok-propagate.ensures.extended

pub returns-clause-missed : goal.returns-clause-missed
returns-clause-missed c =
    let settled = OnTrue_at c.if-not-branch.false c.in_ok-propagate.ensures.settled in
    OnTrue_from (not c.contains.result) (Misses c.args.store.now.clauses c.args.clause.now c.args.literal)
    (λ t. Misses-from c.args.store.now.clauses c.args.clause.now c.args.literal c.propagate.new.trail.literals
    (least (goal.at.returns-clause-missed c).In_ok-propagate)
    (λ m i. IsFrontOf-part c.assume_others.new.trail.literals c.propagate.new.trail.literals c.in_ok-propagate.ensures.extended m
    (c.in_ok-assume_others.ensures.has m ∙ or_right _ _ i))
    (settled_closed c.args.store.now.clauses c.propagate.new.trail.literals settled)
    (settled_quiet c.args.store.now.clauses c.propagate.new.trail.literals settled)
    (sym c.contains.ensures ∙ not-true _ t))

pub returns-clause-reached : goal.returns-clause-reached
returns-clause-reached c =
    OnFalse_from (not c.contains.result) (Misses c.args.store.now.clauses c.args.clause.now c.args.literal → ⊥)
    (λ t. not_missed c.args.store.now.clauses c.args.clause.now c.args.literal c.propagate.new.trail.literals
    (least (goal.at.returns-clause-reached c).In_ok-propagate)
    (sym c.contains.ensures ∙ not-false _ t))

pub returns-clause-extended : goal.returns-clause-extended
returns-clause-extended c =
    IsFrontOf-trans c.args.trail.now.literals c.assume_others.new.trail.literals c.propagate.new.trail.literals
    c.in_ok-assume_others.ensures.extended c.in_ok-propagate.ensures.extended
