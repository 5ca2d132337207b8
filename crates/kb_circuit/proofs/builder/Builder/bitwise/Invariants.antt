use Rattle.std.proofs.Common.{◌≡◌, ◌≤◌, length, take, drop}
use Rattle.kb_circuit.specs.Words.{bitwise, in_front}
use Rattle.kb_circuit.proofs.builder.Builder.bitwise.Given as goal

abbrev pub invariant-loop-i : goal.invariant-loop-i
invariant-loop-i l = record {
  long : length l.out ≡ 32;
  grows : l.fn.self.vars ≤ l.self.vars;
  built : in_front (take l.i l.out) (bitwise l.gate (drop l.i l.left) (drop l.i l.right) l.self) ≡ bitwise l.gate l.left l.right l.fn.self;
}
