use Rattle.std.proofs.Common.{◌≡◌, ◌∙◌, sym, ap, Some, fold}
use Rattle.std.proofs.lemmas.Bool.{MatchBool-at_true}
use Rattle.kb_chain.specs.Chains.{resolved, entry_of}
use Rattle.kb_chain.proofs.Soundness.{fold_none}
use Rattle.kb_chain.proofs.ChainLaws.{AreWithin-from, entry_within}
use Rattle.kb_chain.proofs.derivation.derive.Goals as goal

pub returns-in_default-clause-found : goal.returns-in_default-clause-found
returns-in_default-clause-found c =
    sym (ap (λ o. fold (resolved c.args.store.now.clauses) o c.args.chain.now.steps) (sym c.in_default.ensures.value)
    ∙ fold_none c.args.store.now.clauses c.args.chain.now.steps)

pub load-requires-clause-within : goal.load-requires-clause-within
load-requires-clause-within c =
    AreWithin-from c.args.store.now.vars c.args.working.now.places c.in-Some.start.now c.requires.places c.in-Some.ensures.within

pub returns-clause-within : goal.returns-clause-within
returns-clause-within c =
    let e : entry_of c.args.store.now.clauses c.args.chain.now ≡ Some c.in_ok-clause.clause =
    ap (λ o. fold (resolved c.args.store.now.clauses) o c.args.chain.now.steps) (sym c.in-Some.ensures.value ∙ ap Some (sym c.in_ok-load.ensures.clause))
    ∙ (ap (λ s. fold (resolved c.args.store.now.clauses) (Some c.load.new.self.clause) s) (sym c.as_slice.ensures)
    ∙ (MatchBool-at_true _ _ c.if-not-branch.false c.in_ok-follow.ensures.found ∙ ap Some (sym c.in_ok-clause.ensures))) in
    entry_within c.args.store.now.vars c.args.store.now.clauses c.args.chain.now c.in_ok-clause.clause c.in-Some.ensures.all_within e
