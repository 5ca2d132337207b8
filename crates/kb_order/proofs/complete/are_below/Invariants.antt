use Rattle.std.proofs.Common.{◌≡◌, ◌<◌, ℕ, true, take}
use Rattle.kb_order.specs.Order.{stands}
use Rattle.kb_order.proofs.complete.are_below.Given as goal

abbrev pub invariant-loop-number : goal.invariant-loop-number
invariant-loop-number l = (number : ℕ) → stands number (take l.number-index l.numbers) ≡ true → number < l.size
