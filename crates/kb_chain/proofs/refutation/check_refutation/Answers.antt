use Rattle.std.proofs.Common.{◌≡◌, ◌∙◌, ap, sym, subst, inl, Some, None, ◌++◌, ◌∷◌, [], get_or, take, ◌+◌, List, ℕ, Bool, rules}
use Rattle.std.proofs.lemmas.Bool.{false≢true}
use Rattle.kb_chain.specs.Literal.{Literal}
use Rattle.std.specs.Prelude.{IsSomeAnd}
use Rattle.kb_chain.specs.Clause.{Satisfies}
use Rattle.kb_chain.specs.Chains.{entry_of, derived, IsFirstBadEntry, IsAnyEntry}
use Rattle.kb_chain.specs.declared.log.Chain.{Chain}
use Rattle.kb_chain.proofs.Soundness.{derived_true, Satisfies-last}
use Rattle.kb_chain.proofs.LogLaws.{first_bad, EachEntry_more, derived_more, refutation_from, no_refutation, some_taken, empty_from, not_empty_from}
use Rattle.kb_chain.proofs.refutation.check_refutation.Goals as goal

pub returns-in_default-clause-verdict : goal.returns-in_default-clause-verdict
returns-in_default-clause-verdict c =
    let none : entry_of c.loop-i.store.clauses (get_or c.as_slice-entries.result.now c.loop-i.i c.index-entries-i.result) ≡ None =
    ap (λ (e : Chain). entry_of c.loop-i.store.clauses e) (sym c.index-entries-i.is) ∙ (sym c.in_ok-clause.ensures.found ∙ c.in_default.is) in
    inl (subst (λ (z : List Chain). IsFirstBadEntry IsAnyEntry c.args.formula.now.clauses z c.loop-i.i) c.as_slice-entries.ensures
    (first_bad IsAnyEntry c.as_slice-entries.result.now c.args.formula.now.clauses c.loop-i.store.clauses c.loop-i.i c.index-entries-i.result c.loop-i-test.true
    c.loop-i.invariant.derived c.loop-i.invariant.derives
    (λ h. subst (λ o. IsSomeAnd o (IsAnyEntry c.loop-i.store.clauses)) none h)))

pub loop-i-preserved : goal.loop-i-preserved
loop-i-preserved c =
    let some : entry_of c.loop-i.store.clauses (get_or c.as_slice-entries.result.now c.loop-i.i c.index-entries-i.result) ≡ Some c.in-Some.clause =
    ap (λ (e : Chain). entry_of c.loop-i.store.clauses e) (sym c.index-entries-i.is) ∙ (sym c.in_ok-clause.ensures.found ∙ c.in-Some.is) in
    let more : derived c.args.formula.now.clauses (take (c.loop-i.i + 1) c.as_slice-entries.result.now) ≡ Some (c.loop-i.store.clauses ++ c.in-Some.clause ∷ []) =
    derived_more c.as_slice-entries.result.now c.args.formula.now.clauses c.loop-i.store.clauses c.loop-i.i c.index-entries-i.result c.in-Some.clause
    c.loop-i-test.true c.loop-i.invariant.derived some in
    record {
      vars = c.in_ok-push.ensures.vars ∙ c.loop-i.invariant.vars;
      places = c.in_ok-clause.ensures.places ∙ c.loop-i.invariant.places;
      empty = c.in_ok-clause.ensures.empty (search rules);
      derived = more ∙ ap Some (sym c.in_ok-push.ensures.ok);
      derives = EachEntry_more IsAnyEntry c.as_slice-entries.result.now c.args.formula.now.clauses c.loop-i.store.clauses c.loop-i.i c.index-entries-i.result c.in-Some.clause
          c.loop-i-test.true c.loop-i.invariant.derived c.loop-i.invariant.derives some tt;
      yes = λ t. refutation_from c.args.formula.now.clauses c.loop-i.store.clauses (take (c.loop-i.i + 1) c.as_slice-entries.result.now) c.in-Some.clause
          (some_taken c.as_slice-entries.result.now c.loop-i.i c.loop-i-test.true) more
          (empty_from c.is_empty-refuted.result c.literals.result.now c.in-Some.clause c.is_empty-refuted.ensures c.literals.ensures.value t);
      no = λ t. no_refutation c.args.formula.now.clauses c.loop-i.store.clauses (take (c.loop-i.i + 1) c.as_slice-entries.result.now) c.in-Some.clause more
          (not_empty_from c.is_empty-refuted.result c.literals.result.now c.in-Some.clause c.is_empty-refuted.ensures c.literals.ensures.value t);
    }

pub returns-then-refuted-clause-unsatisfiable : goal.returns-then-refuted-clause-unsatisfiable
returns-then-refuted-clause-unsatisfiable c _ v h =
    let r = c.loop-i.invariant.yes c.if-refuted.true in
    no_empty v r.last.0 (derived_true v (take c.loop-i.i c.as_slice-entries.result.now) c.args.formula.now.clauses (r.last.0 ++ [] ∷ []) h r.last.1)
  where
    no_empty : (v : ℕ → Bool) (earlier : List (List Literal)) → Satisfies v (earlier ++ [] ∷ []) → ⊥
    no_empty v earlier s = false≢true (Satisfies-last v earlier [] s)
