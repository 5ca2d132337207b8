use Rattle.std.proofs.Common.{◌≡◌, ◌≤◌, drop}
use Rattle.kb_chain.specs.Cnf.{IsWithin}
use Rattle.kb_circuit.specs.Multiplication.{with_rows, mul_word}
use Rattle.kb_circuit.proofs.builder.Builder.mul.Given as goal

abbrev pub invariant-loop-j : goal.invariant-loop-j
invariant-loop-j l = record {
  grows : l.fn.self.vars ≤ l.self.vars;
  within : IsWithin l.self.vars l.sum;
  built : with_rows l.j l.sum l.left (drop l.j l.right) l.self ≡ mul_word l.left l.right l.fn.self;
}
