use Rattle.std.proofs.Common.{◌≡◌, ◌∙◌, ap, sym, subst, Some, None, ◌∷◌, [], ◌++◌, get_or, length, arith, List, length-append, rules}
use Rattle.std.specs.Prelude.{IsSomeAnd}
use Rattle.std.proofs.lemmas.Bool.{OnTrue_at, OnFalse_at}
use Rattle.kb_chain.specs.Literal.{Literal}
use Rattle.kb_chain.specs.Cnf.{IsWithin}
use Rattle.kb_chain.specs.Chains.{entry_of}
use Rattle.kb_chain.specs.Propagation.{IsNew}
use Rattle.kb_chain.specs.declared.log.Chain.{Chain}
use Rattle.kb_chain.proofs.FreshnessLaws.{not_new}
use Rattle.kb_chain.proofs.LogLaws.{first_bad, EachEntry_more, derived_more}
use Rattle.kb_chain.proofs.freshness.check_entries.Goals as goal
use Rattle.kb_chain.proofs.freshness.check_entries.Goals.{In-Some}

-- the entry's clause
some : (c : In-Some) → entry_of c.loop-i.store.clauses (get_or c.args.entries.now c.loop-i.i c.index-entries-i.result) ≡ Some c.in-Some.clause
some c = ap (λ (e : Chain). entry_of c.loop-i.store.clauses e) (sym c.index-entries-i.is) ∙ (sym c.in_ok-clause.ensures.found ∙ c.in-Some.is)

within : (c : In-Some) → IsWithin c.loop-i.store.vars c.in-Some.clause
within c = rw c.in-Some.is at c.in_ok-clause.ensures.within

pub returns-in_default : goal.returns-in_default
returns-in_default c =
    let none : entry_of c.loop-i.store.clauses (get_or c.args.entries.now c.loop-i.i c.index-entries-i.result) ≡ None =
    ap (λ (e : Chain). entry_of c.loop-i.store.clauses e) (sym c.index-entries-i.is) ∙ (sym c.in_ok-clause.ensures.found ∙ c.in_default.is) in
    first_bad IsNew c.args.entries.now c.args.formula.now.clauses c.loop-i.store.clauses c.loop-i.i c.index-entries-i.result c.loop-i-test.true
    c.loop-i.invariant.derived c.loop-i.invariant.fresh
    (λ h. subst (λ o. IsSomeAnd o (IsNew c.loop-i.store.clauses)) none h)

pub take_new-requires-clause-within : goal.take_new-requires-clause-within
take_new-requires-clause-within c = within (goal.at.take_new-requires-clause-within c).In-Some

pub take_new-requires-clause-root : goal.take_new-requires-clause-root
take_new-requires-clause-root c = OnTrue_at c.if-not-quiet.false c.loop-i.invariant.root

pub returns-in_default-2 : goal.returns-in_default-2
returns-in_default-2 c =
    first_bad IsNew c.args.entries.now c.args.formula.now.clauses c.loop-i.store.clauses c.loop-i.i c.index-entries-i.result c.loop-i-test.true
    c.loop-i.invariant.derived c.loop-i.invariant.fresh
    (λ h. (rw c.in_default-2.is at c.in_ok-next.ensures.known)
    (subst (λ o. IsSomeAnd o (IsNew c.loop-i.store.clauses)) (some (goal.at.returns-in_default-2 c).In-Some) h))

pub returns-then-not-quiet : goal.returns-then-not-quiet
returns-then-not-quiet c =
    first_bad IsNew c.args.entries.now c.args.formula.now.clauses c.loop-i.store.clauses c.loop-i.i c.index-entries-i.result c.loop-i-test.true
    c.loop-i.invariant.derived c.loop-i.invariant.fresh
    (λ h. not_new c.loop-i.store.clauses c.in-Some.clause c.loop-i.trail.literals (OnFalse_at c.if-not-quiet.true c.loop-i.invariant.refuted)
    (subst (λ o. IsSomeAnd o (IsNew c.loop-i.store.clauses)) (some (goal.at.returns-then-not-quiet c).In-Some) h))

pub loop-i-preserved : goal.loop-i-preserved
loop-i-preserved c =
    let s = some (goal.at.loop-i-preserved c).In-Some in
    let taken = c.in_ok-next.ensures in
    let pushed : c.take_new.new.store.clauses ≡ c.loop-i.store.clauses ++ c.in-Some.clause ∷ [] = rw c.in-Some-2.is at taken.clauses in
    record {
      vars = c.take_new.ensures.vars ∙ c.loop-i.invariant.vars;
      count = ap (λ (z : List (List Literal)). length z) pushed ∙ (length-append c.loop-i.store.clauses (c.in-Some.clause ∷ []) ∙ omega (arith, c.loop-i.invariant.count));
      places = c.in_ok-clause.ensures.places ∙ c.loop-i.invariant.places;
      empty = c.in_ok-clause.ensures.empty (search rules);
      trail = c.take_new.ensures.places ∙ c.loop-i.invariant.trail;
      rows = c.take_new.ensures.rows ∙ c.loop-i.invariant.rows;
      indexed = rw c.in-Some-2.is at taken.indexed;
      root = rw c.in-Some-2.is at taken.root;
      refuted = rw c.in-Some-2.is at taken.refuted;
      derived = derived_more c.args.entries.now c.args.formula.now.clauses c.loop-i.store.clauses c.loop-i.i c.index-entries-i.result c.in-Some.clause
          c.loop-i-test.true c.loop-i.invariant.derived s ∙ ap Some (sym pushed);
      fresh = EachEntry_more IsNew c.args.entries.now c.args.formula.now.clauses c.loop-i.store.clauses c.loop-i.i c.index-entries-i.result c.in-Some.clause
          c.loop-i-test.true c.loop-i.invariant.derived c.loop-i.invariant.fresh s (rw c.in-Some-2.is at taken.new);
    }
