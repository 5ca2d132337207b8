use Rattle.std.proofs.Common.{◌≡◌, ◌-◌, ◌≤◌, length, drop}
use Rattle.kb_chain.specs.Cnf.{IsWithin}
use Rattle.kb_circuit.specs.Division.{long_division}
use Rattle.kb_circuit.proofs.builder.Builder.long_division.Given as goal

abbrev pub invariant-loop-place : goal.invariant-loop-place
invariant-loop-place l = record {
  long : length l.quotient ≡ 32;
  grows : l.fn.self.vars ≤ l.self.vars;
  quotient : IsWithin l.self.vars (drop (32 - l.place) l.quotient);
  remainder : IsWithin l.self.vars l.remainder;
  built : long_division (drop (32 - l.place) l.dividend) l.divisor l.fn.self ≡ ((drop (32 - l.place) l.quotient, l.remainder), l.self);
}
