use Rattle.std.proofs.Common.{◌≡◌, ◌+◌, length}
use Rattle.kb_asm_check.specs.Faults.{fault_from}
use Rattle.kb_asm_check.proofs.faults.first_fault.Given as goal

abbrev pub invariant-loop-rest : goal.invariant-loop-rest
invariant-loop-rest l = record {
  fault : fault_from l.place l.rest ≡ fault_from 0 l.lines;
  place : l.place + length l.rest ≡ length l.lines;
}

abbrev pub decreases-loop-rest : goal.decreases-loop-rest
decreases-loop-rest l = length l.rest
