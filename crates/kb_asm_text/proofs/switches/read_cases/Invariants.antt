use Rattle.std.proofs.Common.{length}
use Rattle.kb_asm_text.specs.Lines.{SpellsCase}
use Rattle.kb_asm_text.proofs.EachLaws.{AreEachRead}
use Rattle.kb_asm_text.proofs.switches.read_cases.Given as goal

abbrev pub invariant-loop-first : goal.invariant-loop-first
invariant-loop-first l = AreEachRead SpellsCase l.cases l.words l.rest

abbrev pub decreases-loop-first : goal.decreases-loop-first
decreases-loop-first l = length l.rest
