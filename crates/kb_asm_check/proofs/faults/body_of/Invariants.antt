use Rattle.std.proofs.Common.{◌≡◌, ◌+◌, length}
use Rattle.kb_asm_check.specs.Faults.{body_of}
use Rattle.kb_asm_check.proofs.faults.body_of.Given as goal

abbrev pub invariant-loop-rest : goal.invariant-loop-rest
invariant-loop-rest l = record {
  body : l.count + length (body_of l.rest) ≡ length (body_of l.lines);
  place : l.count + length l.rest ≡ length l.lines;
}

abbrev pub decreases-loop-rest : goal.decreases-loop-rest
decreases-loop-rest l = length l.rest
