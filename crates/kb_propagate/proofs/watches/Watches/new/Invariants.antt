use Rattle.std.proofs.Common.{◌≡◌, length}
use Rattle.kb_propagate.specs.Watches.{AreEmpty}
use Rattle.kb_propagate.proofs.watches.Watches.new.Given as goal

abbrev pub invariant-loop-place : goal.invariant-loop-place
invariant-loop-place l = record {
  places : length l.lists.items ≡ l._place;
  empty : AreEmpty l.lists.items;
}
