use Rattle.std.proofs.Common.{sym, subst, List}
use Rattle.kb_chain.specs.Literal.{Literal}
use Rattle.kb_chain.specs.Index.{IsRoot}
use Rattle.kb_chain.proofs.ChainLaws.{AreWithin-from}
use Rattle.kb_chain.proofs.freshness.take_new.Goals as goal

pub is_new-requires-clause-within : goal.is_new-requires-clause-within
is_new-requires-clause-within c =
    AreWithin-from c.args.store.now.vars c.args.trail.now.places c.args.clause c.requires.places c.requires.within

pub take_in-requires-clause-root : goal.take_in-requires-clause-root
take_in-requires-clause-root c =
    subst (λ (z : List Literal). IsRoot c.args.store.now.clauses z) (sym c.in_ok-is_new.ensures.root) c.requires.root
