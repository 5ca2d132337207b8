use Rattle.std.proofs.Common.{◌≡◌, length}
use Rattle.kb_words.specs.Settings.{is_given}
use Rattle.kb_words.proofs.settings.is_given.Given as goal

abbrev pub invariant-loop-rest : goal.invariant-loop-rest
invariant-loop-rest l = is_given l.option l.rest ≡ is_given l.option l.settings

abbrev pub decreases-loop-rest : goal.decreases-loop-rest
decreases-loop-rest l = length l.rest
