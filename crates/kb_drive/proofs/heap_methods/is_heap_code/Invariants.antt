use Rattle.std.proofs.Common.{◌≡◌, ℕ, length}
use Rattle.std.specs.List.{list_all}
use Rattle.kb_code.specs.declared.instruction.Instr.{Instr}
use Rattle.kb_drive.specs.HeapMethods.{is_heap_instruction}
use Rattle.kb_drive.proofs.heap_methods.is_heap_code.Given as goal

abbrev pub invariant-loop-rest : goal.invariant-loop-rest
invariant-loop-rest l =
    list_all (λ (item : ℕ × Instr). is_heap_instruction l.world l.method item.1) l.rest
    ≡ list_all (λ (item : ℕ × Instr). is_heap_instruction l.world l.method item.1) l.code.listing.items

abbrev pub decreases-loop-rest : goal.decreases-loop-rest
decreases-loop-rest l = length l.rest
