use Rattle.std.proofs.Common.{◌≡◌, length}
use Rattle.kb_propagate.specs.Rows.{stored_of}
use Rattle.kb_propagate.proofs.CompactLaws.{IsMoving}
use Rattle.kb_propagate.proofs.clauses.move_together.Given as goal

abbrev pub invariant-loop-number : goal.invariant-loop-number
invariant-loop-number l = record {
  moving : IsMoving l.flat.items l.slots.items l.number l.end (stored_of l.fn.flat.items l.fn.slots.items);
  count : length l.slots.items ≡ length l.fn.slots.items;
}
