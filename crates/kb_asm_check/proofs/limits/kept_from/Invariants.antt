use Rattle.std.proofs.Common.{◌≡◌, ◌+◌, length}
use Rattle.std.specs.Prelude.{IsTrue}
use Rattle.kb_asm_check.specs.Limits.{are_few, kept_behind, kept}
use Rattle.kb_asm_check.specs.Walking.{standing_of}
use Rattle.kb_asm_check.proofs.limits.kept_from.Given as goal

abbrev pub invariant-loop-rest : goal.invariant-loop-rest
invariant-loop-rest l = record {
  kept : l.count + kept_behind (standing_of l.limits) l.rest ≡ kept l.lines;
  few : IsTrue (are_few l.limits.counts);
  place : l.count + length l.rest ≡ length l.lines;
}

abbrev pub decreases-loop-rest : goal.decreases-loop-rest
decreases-loop-rest l = length l.rest
