use Rattle.std.proofs.Common.{length}
use Rattle.kb_asm_text.proofs.WordLaws.{AreLed}
use Rattle.kb_asm_text.proofs.words.words_of.Given as goal

abbrev pub invariant-loop-word : goal.invariant-loop-word
invariant-loop-word l = AreLed l.words l.line l.rest

abbrev pub decreases-loop-word : goal.decreases-loop-word
decreases-loop-word l = length l.rest
