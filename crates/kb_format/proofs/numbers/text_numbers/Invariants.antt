use Rattle.std.proofs.Common.{take}
use Rattle.kb_format.specs.Rules.{AllDiffer}
use Rattle.kb_format.specs.Members.{texts_of}
use Rattle.kb_format.proofs.TextNumbers.{AreNumbersOf}
use Rattle.kb_format.proofs.numbers.text_numbers.Given as goal

abbrev pub invariant-loop-entry : goal.invariant-loop-entry
invariant-loop-entry l = AllDiffer (texts_of l.texts.keys) × AreNumbersOf (texts_of l.texts.keys) (take l.entry-index l.pool) l.numbers.items
