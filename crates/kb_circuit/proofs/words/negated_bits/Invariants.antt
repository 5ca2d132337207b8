use Rattle.std.proofs.Common.{◌≡◌, ◌++◌, length, take, drop, map}
use Rattle.kb_chain.specs.Literal.{negated}
use Rattle.kb_circuit.proofs.words.negated_bits.Given as goal

abbrev pub invariant-loop-i : goal.invariant-loop-i
invariant-loop-i l = record {
  long : length l.out ≡ 32;
  negated : take l.i l.out ++ map negated (drop l.i l.bits) ≡ map negated l.bits;
}
