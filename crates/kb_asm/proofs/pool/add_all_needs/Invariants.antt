use Rattle.std.proofs.Common.{◌≡◌, length, flat_map}
use Rattle.kb_asm_pool.specs.Says.{all_added}
use Rattle.kb_asm_pool.specs.Needs.{line_needs}
use Rattle.kb_asm.proofs.pool.add_all_needs.Given as goal

abbrev pub invariant-loop-rest : goal.invariant-loop-rest
invariant-loop-rest l = all_added l.pool.says (flat_map line_needs l.rest) ≡ all_added l.fn.pool.says (flat_map line_needs l.lines)

abbrev pub decreases-loop-rest : goal.decreases-loop-rest
decreases-loop-rest l = length l.rest
