use Rattle.std.proofs.Common.{◌∙◌, ◌++◌, ◌∷◌, [], ap, sym, subst, List, Bool, length, take}
use Rattle.std.proofs.lemmas.Bool.{OnTrue_at, OnFalse_at}
use Rattle.kb_chain.specs.Literal.{Literal}
use Rattle.kb_chain.specs.Propagation.{IsClosed, Includes}
use Rattle.kb_chain.specs.Index.{AreSettled, IsRefuted}
use Rattle.kb_chain.proofs.ChainLaws.{AreWithin-from}
use Rattle.kb_chain.proofs.IndexLaws.{slice_get-last}
use Rattle.kb_chain.proofs.FreshnessLaws.{AreSettled-push, IsClosed_front, root_from, refuted_from}
use Rattle.kb_chain.proofs.freshness.take_in.Goals as goal
use Rattle.kb_chain.proofs.freshness.take_in.Goals.{In_ok-push}

pub add-requires : goal.add-requires
add-requires c = AreWithin-from c.args.store.now.vars (length c.args.index.now.occurrences.items) c.args.clause c.requires.rows c.requires.within

pub examine-requires : goal.examine-requires
examine-requires c = AreWithin-from c.args.store.now.vars c.args.trail.now.places c.args.clause c.requires.places c.requires.within

-- the closed sets include what the clause adds
least : (c : In_ok-push) (set : Literal → Bool) → IsClosed (c.args.store.now.clauses ++ c.args.clause ∷ []) set → Includes set c.examine.new.trail.literals
least c set closed =
    c.in_ok-quiet.ensures.least set
    (λ l i o. closed (length c.args.store.now.clauses) c.args.clause (slice_get-last c.args.store.now.clauses c.args.clause) l i o)
    (c.requires.root.least set (IsClosed_front c.args.store.now.clauses c.args.clause set closed))

least_pushed : (c : In_ok-push) (set : Literal → Bool) → IsClosed c.push.new.self.clauses set → Includes set c.examine.new.trail.literals
least_pushed c set closed = least c set (subst (λ (z : List (List Literal)). IsClosed z set) c.in_ok-push.ensures.ok closed)

pub returns-then-not-quiet-clause-refuted : goal.returns-then-not-quiet-clause-refuted
returns-then-not-quiet-clause-refuted c =
    subst (λ (z : List (List Literal)). IsRefuted z c.examine.new.trail.literals) (sym c.in_ok-push.ensures.ok) (record {
      negated = (
        length c.args.store.now.clauses,
        c.args.clause,
        slice_get-last c.args.store.now.clauses c.args.clause,
        OnFalse_at c.if-not-quiet.true c.in_ok-quiet.ensures.negated,
      );
      least = least (goal.at.returns-then-not-quiet-clause-refuted c).In_ok-push;
    })

pub propagate-requires-clause-settled : goal.propagate-requires-clause-settled
propagate-requires-clause-settled c =
    subst (λ (z : List (List Literal)). AreSettled z (take (length c.literals-next.result.now) c.examine.new.trail.literals) c.examine.new.trail.literals)
    (sym c.in_ok-push.ensures.ok)
    (AreSettled-push c.args.store.now.clauses c.args.clause c.args.trail.now.literals c.examine.new.trail.literals
    (take (length c.literals-next.result.now) c.examine.new.trail.literals) c.in_ok-quiet.ensures.extended
    (ap (λ (z : List Literal). take (length z) c.examine.new.trail.literals) c.literals-next.ensures.value ∙ c.in_ok-quiet.ensures.extended)
    c.requires.root.settled (OnTrue_at c.if-not-quiet.false c.in_ok-quiet.ensures.settled))

pub returns-clause-root : goal.returns-clause-root
returns-clause-root c =
    root_from c.propagate.result c.push.new.self.clauses c.examine.new.trail.literals c.propagate.new.trail.literals c.propagate.ensures.settled c.propagate.ensures.least
    (least_pushed (goal.at.returns-clause-root c).In_ok-push)

pub returns-clause-refuted : goal.returns-clause-refuted
returns-clause-refuted c =
    refuted_from c.propagate.result c.push.new.self.clauses c.examine.new.trail.literals c.propagate.new.trail.literals c.propagate.ensures.negated c.propagate.ensures.least
    (least_pushed (goal.at.returns-clause-refuted c).In_ok-push)
