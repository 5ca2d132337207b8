use Rattle.std.proofs.Common.{◌≡◌, ◌≤◌, drop}
use Rattle.kb_circuit.specs.Words.{equal, equal_from}
use Rattle.kb_circuit.proofs.builder.Builder.equal.Given as goal

abbrev pub invariant-loop-i : goal.invariant-loop-i
invariant-loop-i l = record {
  low : 1 ≤ l.i;
  grows : l.fn.self.vars ≤ l.self.vars;
  within : l.equal.variable ≤ l.self.vars;
  built : equal_from l.equal (drop l.i l.left) (drop l.i l.right) l.self ≡ equal l.left l.right l.fn.self;
}
