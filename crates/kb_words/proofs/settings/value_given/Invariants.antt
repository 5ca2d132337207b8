use Rattle.std.proofs.Common.{◌≡◌, length}
use Rattle.kb_words.specs.Settings.{value_given}
use Rattle.kb_words.proofs.settings.value_given.Given as goal

abbrev pub invariant-loop-rest : goal.invariant-loop-rest
invariant-loop-rest l = value_given l.option l.rest ≡ value_given l.option l.settings

abbrev pub decreases-loop-rest : goal.decreases-loop-rest
decreases-loop-rest l = length l.rest
