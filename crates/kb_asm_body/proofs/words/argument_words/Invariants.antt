use Rattle.std.proofs.Common.{◌≡◌, length}
use Rattle.kb_asm_body.specs.Words.{with_words, argument_words}
use Rattle.kb_asm_body.proofs.words.argument_words.Given as goal

abbrev pub invariant-loop-rest : goal.invariant-loop-rest
invariant-loop-rest l = with_words l.words l.rest ≡ argument_words l.kind

abbrev pub decreases-loop-rest : goal.decreases-loop-rest
decreases-loop-rest l = length l.rest
