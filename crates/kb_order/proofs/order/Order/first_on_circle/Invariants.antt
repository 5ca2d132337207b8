use Rattle.std.proofs.Common.{ℕ, ◌<◌}
use Rattle.kb_order.specs.Order.{StandsOnCircle}
use Rattle.kb_order.proofs.order.Order.first_on_circle.Given as goal

abbrev pub invariant-loop-low : goal.invariant-loop-low
invariant-loop-low l = (earlier : ℕ) → earlier < l.low → StandsOnCircle l.self earlier → ⊥
