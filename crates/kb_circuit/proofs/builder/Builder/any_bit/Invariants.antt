use Rattle.std.proofs.Common.{◌≡◌, ◌≤◌, drop}
use Rattle.kb_circuit.specs.Division.{any_from, any_bit}
use Rattle.kb_circuit.proofs.builder.Builder.any_bit.Given as goal

abbrev pub invariant-loop-i : goal.invariant-loop-i
invariant-loop-i l = record {
  low : 1 ≤ l.i;
  grows : l.fn.self.vars ≤ l.self.vars;
  within : l.found.variable ≤ l.self.vars;
  built : any_from l.found (drop l.i l.bits) l.self ≡ any_bit l.bits l.fn.self;
}
