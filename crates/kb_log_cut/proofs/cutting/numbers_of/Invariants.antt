use Rattle.std.proofs.Common.{◌≡◌, ◌+◌, ◌≤◌}
use Rattle.kb_log_cut.specs.Cutting.{marked_before, numbers_before}
use Rattle.kb_log_cut.proofs.cutting.numbers_of.Given as goal

abbrev pub invariant-loop-entry : goal.invariant-loop-entry
invariant-loop-entry l = record {
  next : l.next ≡ l.first + marked_before l.marks l.entry;
  small : l.next ≤ l.first + l.entry;
  numbers : l.numbers.items ≡ numbers_before (record { first = l.first; marks = l.marks }) l.entry;
}
