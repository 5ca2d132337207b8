use Rattle.std.proofs.Common.{◌≡◌, ℕ, true, ap, sym, ◌∙◌}
use Rattle.std.proofs.lemmas.Bool.{false≢true}
use Rattle.kb_order.specs.Order.{stands, IsDirectlyAbove}
use Rattle.kb_order.proofs.OrderLaws.{directly_from_item}
use Rattle.kb_order.proofs.complete.is_complete.Goals as goal

pub returns-then-not-are_below : goal.returns-then-not-are_below
returns-then-not-are_below c =
    let direct = c.args.direct.now in
    let i = c.loop-highs.highs-index in
    let item = c.highs-item.result in
    let stands_directly : (high : ℕ) → stands high c.as_slice.result.now ≡ true → IsDirectlyAbove direct i high = λ high is.
    directly_from_item direct i item high c.loop-highs-test.true c.highs-item.is (ap (stands high) (sym c.as_slice.ensures) ∙ is) in
    (λ t. absurd (false≢true t), λ h. sym c.if-not-are_below.true ∙ c.are_below.ensures.1 (λ high is. h i high (stands_directly high is)))
