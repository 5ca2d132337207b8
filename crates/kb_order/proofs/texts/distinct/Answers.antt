use Rattle.std.proofs.Common.{◌≡◌, length, subst, arith}
use Rattle.kb_order.specs.Sorting.{IsTaken}
use Rattle.kb_order.proofs.TakingLaws.{taken_last, none_left}
use Rattle.kb_order.proofs.texts.distinct.Goals as goal

pub loop-text-preserved : goal.loop-text-preserved
loop-text-preserved c =
    let texts = c.args.texts.items in
    c.in_ok-take_in.ensures texts c.pop.new.self.items (subst (λ z. IsTaken texts c.loop-text.taken.items z) c.in-Some.ensures.items c.loop-text.invariant)

pub returns : goal.returns
returns c =
    let texts = c.args.texts.items in
    let left = c.loop-text.left.items in
    let none = c.in_default.ensures.cases.0 in
    let empty : length left ≡ 0 = omega (arith, none) in
    taken_last texts c.loop-text.taken.items (subst (λ z. IsTaken texts c.loop-text.taken.items z) (none_left left empty) c.loop-text.invariant)
