use Rattle.std.proofs.Common.{◌∙◌, ap}
use Rattle.std.proofs.lemmas.List.{take_all}
use Rattle.kb_chain.specs.Literal.{has}
use Rattle.kb_chain.proofs.IndexLaws.{IsIndexed-push}
use Rattle.kb_chain.proofs.index.Index.add.Goals as goal

pub returns-clause-indexed : goal.returns-clause-indexed
returns-clause-indexed c clauses n h =
    IsIndexed-push clauses c.args.clause.now c.args.self.now c.loop-literal.self c.args.number n h
    c.loop-literal.invariant.kept
    (λ l i. c.loop-literal.invariant.added l
    (ap (λ z. has z l) (take_all c.loop-literal.literal-index c.literals-literal-items.result.now c.loop-literal-test.false ∙ c.literals-literal-items.ensures.value) ∙ i))
