use Rattle.std.proofs.Common.{take}
use Rattle.kb_grammar.specs.Lines.{Lacks}
use Rattle.kb_grammar.proofs.words.cut.Given as goal

abbrev pub invariant-loop-at : goal.invariant-loop-at
invariant-loop-at l = Lacks l.byte (take l.at l.text)
