use Rattle.std.proofs.Common.{◌≡◌, ℕ, length}
use Rattle.std.specs.List.{list_all}
use Rattle.kb_code.specs.declared.instruction.Instr.{Instr}
use Rattle.kb_frames.specs.Next.{is_int_instruction}
use Rattle.kb_stepint.proofs.int_methods.is_int_code.Given as goal

abbrev pub invariant-loop-rest : goal.invariant-loop-rest
invariant-loop-rest l =
    list_all (λ (item : ℕ × Instr). is_int_instruction l.world l.method item.1) l.rest
    ≡ list_all (λ (item : ℕ × Instr). is_int_instruction l.world l.method item.1) l.code.listing.items

abbrev pub decreases-loop-rest : goal.decreases-loop-rest
decreases-loop-rest l = length l.rest
