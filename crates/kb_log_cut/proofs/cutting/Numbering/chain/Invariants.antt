use Rattle.std.proofs.Common.{◌≡◌, ◌++◌, length, map}
use Rattle.kb_log_cut.specs.Cutting.{number_among, step_with}
use Rattle.kb_log_cut.proofs.cutting.Numbering.chain.Given as goal

abbrev pub invariant-loop-rest : goal.invariant-loop-rest
invariant-loop-rest l = l.steps ++ map (step_with (number_among l.self)) l.rest ≡ map (step_with (number_among l.self)) l.chain.steps

abbrev pub decreases-loop-rest : goal.decreases-loop-rest
decreases-loop-rest l = length l.rest
