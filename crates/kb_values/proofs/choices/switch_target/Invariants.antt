use Rattle.std.proofs.Common.{◌≡◌, length}
use Rattle.kb_semantics.specs.Comparisons.{switch_target}
use Rattle.kb_values.proofs.choices.switch_target.Given as goal

abbrev pub invariant-loop-rest : goal.invariant-loop-rest
invariant-loop-rest l = switch_target l.value l.rest l.default ≡ switch_target l.value l.keys l.default

abbrev pub decreases-loop-rest : goal.decreases-loop-rest
decreases-loop-rest l = length l.rest
