use Rattle.std.proofs.Common.{◌<◌, ℕ, length}
use Rattle.kb_order.specs.Order.{IsDirectlyAbove}
use Rattle.kb_order.proofs.complete.is_complete.Given as goal

abbrev pub invariant-loop-highs : goal.invariant-loop-highs
invariant-loop-highs l = (low high : ℕ) → low < l.highs-index → IsDirectlyAbove l.direct low high → high < length l.direct
