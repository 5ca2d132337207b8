use Rattle.std.proofs.Common.{◌≡◌, length}
use Rattle.kb_propagate.specs.Base.{IsModelOf}
use Rattle.kb_propagate.proofs.complete.model.Given as goal

abbrev pub invariant-loop-before : goal.invariant-loop-before
invariant-loop-before l = record {
  count : length l.bits.items ≡ l.before;
  values : IsModelOf l.bits.items l.trail;
}
