use Rattle.std.proofs.Common.{◌≡◌, take}
use Rattle.kb_numbers.specs.Members.{method_pairs}
use Rattle.kb_numbers.proofs.signatures.method_pairs.Given as goal

abbrev pub invariant-loop-own : goal.invariant-loop-own
invariant-loop-own l = l.pairs.items ≡ method_pairs (take l.own-index l.classes)
