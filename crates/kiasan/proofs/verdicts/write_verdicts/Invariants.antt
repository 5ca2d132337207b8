use Rattle.std.proofs.Common.{◌≡◌, ◌+◌, ◌++◌, length}
use Rattle.kiasan.specs.Verdicts.{verdicts_text}
use Rattle.kiasan.proofs.verdicts.write_verdicts.Given as goal

abbrev pub invariant-loop-rest : goal.invariant-loop-rest
invariant-loop-rest l =
    (l.text.items ++ verdicts_text l.literals l.number l.rest l.tests ≡ l.fn.text.items ++ verdicts_text l.literals 0 l.replayed l.fn.tests)
    × (l.number + length l.rest ≡ length l.replayed)

abbrev pub decreases-loop-rest : goal.decreases-loop-rest
decreases-loop-rest l = length l.rest
