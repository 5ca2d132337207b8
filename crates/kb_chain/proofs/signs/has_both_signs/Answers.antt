use Rattle.std.proofs.Common.{◌≡◌, ◌∙◌, ap, sym, None}
use Rattle.std.proofs.lemmas.Bool.{OnTrue_from, OnFalse_from, false≢true}
use Rattle.kb_chain.specs.Propagation.{HasBothSigns}
use Rattle.kb_chain.specs.Signs.{repeats}
use Rattle.kb_chain.proofs.SignLaws.{HasBothSigns-from, repeats-from}
use Rattle.kb_chain.proofs.signs.has_both_signs.Goals as goal

pub returns-clause-both : goal.returns-clause-both
returns-clause-both c =
    let e : c.repeats.result ≡ repeats None c.args.clause.now = c.repeats.ensures ∙ ap (repeats None) c.literals.ensures.value in
    OnTrue_from c.repeats.result (HasBothSigns c.args.clause.now) (λ t. HasBothSigns-from c.args.clause.now c.literals.ensures.ordered (sym e ∙ t))

pub returns-clause-one : goal.returns-clause-one
returns-clause-one c =
    let e : c.repeats.result ≡ repeats None c.args.clause.now = c.repeats.ensures ∙ ap (repeats None) c.literals.ensures.value in
    OnFalse_from c.repeats.result (HasBothSigns c.args.clause.now → ⊥)
    (λ t b. false≢true (sym t ∙ (e ∙ repeats-from c.args.clause.now c.literals.ensures.ordered b)))
