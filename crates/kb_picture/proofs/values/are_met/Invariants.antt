use Rattle.std.proofs.Common.{◌↔◌, length}
use Rattle.kb_blast.specs.Meaning.{AreMet}
use Rattle.kb_picture.proofs.values.are_met.Given as goal

abbrev pub invariant-loop-rest : goal.invariant-loop-rest
invariant-loop-rest l = AreMet l.values l.rest ↔ AreMet l.values l.when

abbrev pub decreases-loop-rest : goal.decreases-loop-rest
decreases-loop-rest l = length l.rest
