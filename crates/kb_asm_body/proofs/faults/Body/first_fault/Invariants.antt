use Rattle.std.proofs.Common.{◌≡◌, ◌<◌, ◌^◌, ◌+◌, length}
use Rattle.kb_asm_body.specs.Layout.{offset_at}
use Rattle.kb_asm_body.specs.Faults.{fault_from}
use Rattle.kb_asm_body.proofs.faults.Body.first_fault.Given as goal

abbrev pub invariant-loop-rest : goal.invariant-loop-rest
invariant-loop-rest l = record {
  fault : fault_from (offset_at l.self.layout.now.labels) l.self.is_whole l.place l.at l.rest ≡ fault_from (offset_at l.self.layout.now.labels) l.self.is_whole 0 0 l.body;
  short : l.at < 2 ^ 30;
  place : l.place + length l.rest ≡ length l.body;
}

abbrev pub decreases-loop-rest : goal.decreases-loop-rest
decreases-loop-rest l = length l.rest
