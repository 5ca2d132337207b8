use Rattle.std.proofs.Common.{◌≤◌, length, ap, ◌∙◌, sym, inl, inr, subst, arith}
use Rattle.std.proofs.lemmas.Bool.{cases_lt, cases_eq, false≢true}
use Rattle.kb_order.specs.Order.{StandsOnCircle}
use Rattle.kb_order.proofs.OrderLaws.{nothing_above}
use Rattle.kb_order.proofs.order.Order.first_on_circle.Goals as goal

pub loop-low-preserved : goal.loop-low-preserved
loop-low-preserved c earlier lt circle =
    elim (cases_eq earlier c.loop-low.low) [
      | inl e ↦ absurd (false≢true (sym c.if-is_strictly_above.false ∙ c.is_strictly_above.ensures.1 (subst (λ z. StandsOnCircle c.args.self.now z) e circle)))
      | inr n ↦ c.loop-low.invariant earlier (omega (arith, lt, n)) circle
    ]

pub returns : goal.returns
returns c low circle =
    let past : length c.as_slice.result.now ≤ c.loop-low.low = c.loop-low-test.false in
    let e = ap length (c.as_slice.ensures ∙ c.self.view_is) in
    elim (cases_lt low c.loop-low.low) [
      | inl lt ↦ c.loop-low.invariant low lt circle
      | inr le ↦ nothing_above c.args.self.now low circle.0 (omega (arith, past, e, le)) circle.1
    ]
