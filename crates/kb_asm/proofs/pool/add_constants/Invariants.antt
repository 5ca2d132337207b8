use Rattle.std.proofs.Common.{◌≡◌, length, flat_map}
use Rattle.kb_asm_pool.specs.Says.{all_added}
use Rattle.kb_asm_check.specs.Limits.{ldc_says}
use Rattle.kb_asm.proofs.pool.add_constants.Given as goal

abbrev pub invariant-loop-rest : goal.invariant-loop-rest
invariant-loop-rest l = all_added l.pool.says (flat_map ldc_says l.rest) ≡ all_added l.fn.pool.says (flat_map ldc_says l.lines)

abbrev pub decreases-loop-rest : goal.decreases-loop-rest
decreases-loop-rest l = length l.rest
