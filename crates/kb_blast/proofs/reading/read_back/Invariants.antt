use Rattle.std.proofs.Common.{◌≡◌, length}
use Rattle.kb_chain.specs.Clause.{assignment_of}
use Rattle.kb_blast.specs.Meaning.{read_into, AreReadable}
use Rattle.kb_blast.proofs.reading.read_back.Given as goal

abbrev pub invariant-loop-rest : goal.invariant-loop-rest
invariant-loop-rest l = record {
  readable : AreReadable l.blasted.formula.vars (length l.into) l.rest;
  long : length l.into ≡ length l.fn.into;
  read : read_into (assignment_of l.bits) l.rest l.into ≡ read_into (assignment_of l.bits) l.blasted.vars l.fn.into;
}

abbrev pub decreases-loop-rest : goal.decreases-loop-rest
decreases-loop-rest l = length l.rest
