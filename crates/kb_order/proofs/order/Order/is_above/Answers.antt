use Rattle.std.proofs.Common.{inl, inr}
use Rattle.kb_order.proofs.OrderLaws.{above_from_strictly, same_or_strictly_above}
use Rattle.kb_order.proofs.order.Order.is_above.Goals as goal

pub returns : goal.returns
returns c =
    let direct = c.args.self.now in (
      λ t. above_from_strictly direct c.args.low c.args.high (c.is_strictly_above.ensures.0 t),
      λ h. elim (same_or_strictly_above direct c.args.low c.args.high h) [
        | inl e ↦ absurd (c.if-low-high.false e)
        | inr s ↦ c.is_strictly_above.ensures.1 s
      ],
    )
