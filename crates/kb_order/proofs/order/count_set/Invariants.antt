use Rattle.std.proofs.Common.{◌≡◌, ◌≤◌, length, ◌+◌}
use Rattle.kb_order.specs.Order.{set_marks}
use Rattle.kb_order.proofs.order.count_set.Given as goal

abbrev pub invariant-loop-rest : goal.invariant-loop-rest
invariant-loop-rest l = record { value : l.count + set_marks l.rest ≡ set_marks l.marks; room : l.count + length l.rest ≤ length l.marks }

abbrev pub decreases-loop-rest : goal.decreases-loop-rest
decreases-loop-rest l = length l.rest
