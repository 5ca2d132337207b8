use Rattle.std.proofs.Common.{◌≡◌, ◌≤◌, ◌-◌, length, take}
use Rattle.kb_chain.specs.Cnf.{IsWithin}
use Rattle.kb_circuit.specs.Words.{in_front}
use Rattle.kb_blast.specs.Conditions.{new_bits}
use Rattle.kb_blast.proofs.variables.new_bits.Given as goal

abbrev pub invariant-loop-i : goal.invariant-loop-i
invariant-loop-i l = record {
  long : length l.bits ≡ 32;
  within : IsWithin l.builder.vars l.bits;
  built : in_front (take l.i l.bits) (new_bits (32 - l.i) l.builder) ≡ new_bits 32 l.fn.builder;
  grows : l.fn.builder.vars ≤ l.builder.vars;
}
