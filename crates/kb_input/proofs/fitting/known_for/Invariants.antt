use Rattle.std.proofs.Common.{◌↔◌, length}
use Rattle.kb_input.specs.Fitting.{AreFitting, IsKnown}
use Rattle.kb_input.proofs.fitting.known_for.Given as goal

abbrev pub invariant-loop-rest : goal.invariant-loop-rest
invariant-loop-rest l = record {
  fitting : AreFitting l.world l.rest;
  rest : IsKnown l.kind l.rest ↔ IsKnown l.kind l.known;
}

abbrev pub decreases-loop-rest : goal.decreases-loop-rest
decreases-loop-rest l = length l.rest
