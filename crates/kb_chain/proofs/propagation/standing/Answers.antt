use Rattle.std.proofs.Common.{◌∙◌, ap, sym, not}
use Rattle.kb_chain.specs.Literal.{has, negated}
use Rattle.kb_chain.specs.Index.{open_literals, status_of}
use Rattle.kb_chain.proofs.PropagationLaws.{second_open}
use Rattle.kb_chain.proofs.propagation.standing.Goals as goal

pub returns-then-is_some-clause-value : goal.returns-then-is_some-clause-value
returns-then-is_some-clause-value c =
    second_open (λ l. not (has c.args.trail.now.literals (negated l))) c.literals-literal-items.result.now c.loop-literal.literal-index c.literal-item.result
    c.loop-literal.open c.loop-literal-test.true c.if-is_some.ensures c.loop-literal.invariant
    (ap (λ z. not (has c.args.trail.now.literals (negated z))) (sym c.literal-item.is)
    ∙ (ap (λ z. not (has c.args.trail.now.literals z)) (sym c.negated.ensures) ∙ ap not (sym c.contains.ensures ∙ c.if-not-contains.true)))
    ∙ ap (λ z. status_of (open_literals (has c.args.trail.now.literals) z)) c.literals-literal-items.ensures.value
