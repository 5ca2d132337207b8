use Rattle.std.proofs.Common.{◌∙◌, ap, sym, Some, subst, List, length}
use Rattle.std.proofs.lemmas.Option.{slice_get-get_or}
use Rattle.kb_chain.specs.Literal.{Literal}
use Rattle.kb_chain.specs.Cnf.{AllWithin}
use Rattle.kb_chain.proofs.ChainLaws.{AllWithin-get, AreWithin-from}
use Rattle.kb_chain.proofs.freshness.index_of.Goals as goal

pub add-requires : goal.add-requires
add-requires c =
    AreWithin-from c.args.formula.now.vars (length c.loop-number.index.occurrences.items) c.clause-item.result c.loop-number.invariant.rows
    (AllWithin-get c.args.formula.now.vars c.clauses-clause-items.result.now c.loop-number.number c.clause-item.result
    (slice_get-get_or c.clauses-clause-items.result.now c.loop-number.number c.clause-item.result c.loop-number-test.true ∙ ap Some (sym c.clause-item.is))
    (subst (λ (z : List (List Literal)). AllWithin c.args.formula.now.vars z) (sym c.clauses-clause-items.ensures.value) c.clauses-clause-items.ensures.within))
