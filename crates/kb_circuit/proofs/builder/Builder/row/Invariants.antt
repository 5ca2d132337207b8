use Rattle.std.proofs.Common.{◌≡◌, ◌≤◌, length}
use Rattle.kb_chain.specs.Cnf.{IsWithin}
use Rattle.kb_circuit.specs.Multiplication.{row_word}
use Rattle.kb_circuit.proofs.MultiplyingLoops.{row_from}
use Rattle.kb_circuit.proofs.builder.Builder.row.Given as goal

abbrev pub invariant-loop-i : goal.invariant-loop-i
invariant-loop-i l = record {
  wide : length l.moved ≡ 32;
  inside : IsWithin l.fn.self.vars l.moved;
  long : length l.out ≡ 32;
  grows : l.fn.self.vars ≤ l.self.vars;
  within : IsWithin l.self.vars l.out;
  built : row_from l.i l.moved l.out l.bit l.self ≡ row_word l.place l.left l.bit l.fn.self;
}
