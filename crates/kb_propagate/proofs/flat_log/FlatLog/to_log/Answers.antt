use Rattle.std.proofs.Common.{◌∙◌, ap, sym, take, [], ◌∷◌, ◌++◌, arith}
use Rattle.std.proofs.lemmas.List.{take_more, take_all}
use Rattle.kb_propagate.proofs.Places.{at_get_or, at_inside}
use Rattle.kb_propagate.proofs.flat_log.FlatLog.to_log.Goals as goal

pub loop-number-preserved : goal.loop-number-preserved
loop-number-preserved c =
    let all = c.args.self.now in
    let chain = c.in_ok-chain.field-0 in
    c.in_ok-push.ensures.ok
    ∙ (ap (λ z. z ++ chain ∷ []) c.loop-number.invariant
    ∙ sym (take_more all c.loop-number.number chain (at_inside all c.loop-number.number chain c.in_ok-chain.ensures)
    ∙ ap (λ z. take c.loop-number.number all ++ z ∷ []) (at_get_or all c.loop-number.number chain chain c.in_ok-chain.ensures)))

pub returns : goal.returns
returns c = c.loop-number.invariant ∙ take_all c.loop-number.number c.args.self.now (omega (arith, c.loop-number-test.false, c.len-number-end.ensures))
