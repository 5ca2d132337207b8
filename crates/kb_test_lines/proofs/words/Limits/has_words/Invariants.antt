use Rattle.std.proofs.Common.{◌≡◌, length}
use Rattle.kb_test_lines.specs.Words.{words_below}
use Rattle.kb_test_lines.proofs.words.Limits.has_words.Given as goal

abbrev pub invariant-loop-rest : goal.invariant-loop-rest
invariant-loop-rest l = words_below l.self l.rest ≡ words_below l.self l.words

abbrev pub decreases-loop-rest : goal.decreases-loop-rest
decreases-loop-rest l = length l.rest
