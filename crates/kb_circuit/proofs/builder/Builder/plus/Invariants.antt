use Rattle.std.proofs.Common.{◌≡◌, ◌≤◌, length, take, drop}
use Rattle.kb_circuit.specs.Words.{plus, sums_in_front}
use Rattle.kb_circuit.proofs.builder.Builder.plus.Given as goal

abbrev pub invariant-loop-i : goal.invariant-loop-i
invariant-loop-i l = record {
  long : length l.sums ≡ 32;
  grows : l.fn.self.vars ≤ l.self.vars;
  carry : l.carry.variable ≤ l.self.vars;
  built : sums_in_front (take l.i l.sums) (plus (drop l.i l.left) (drop l.i l.right) l.carry l.self) ≡ plus l.left l.right l.fn.first l.fn.self;
}
