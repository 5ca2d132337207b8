use Rattle.std.proofs.Common.{◌≡◌, ◌-◌, ◌++◌, length, take, map}
use Rattle.kb_chain.specs.Literal.{literal}
use Rattle.kb_blast.specs.Conditions.{bits, constant_word}
use Rattle.kb_blast.proofs.terms.constant_word.Given as goal

abbrev pub invariant-loop-i : goal.invariant-loop-i
invariant-loop-i l = record {
  long : length l.bits ≡ 32;
  built : take l.i l.bits ++ map (literal 1) (bits (32 - l.i) l.rest) ≡ constant_word l.value;
}
