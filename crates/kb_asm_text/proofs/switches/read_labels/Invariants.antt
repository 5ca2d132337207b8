use Rattle.std.proofs.Common.{length}
use Rattle.kb_asm_text.specs.Tokens.{SpellsLabel}
use Rattle.kb_asm_text.proofs.EachLaws.{AreEachRead}
use Rattle.kb_asm_text.proofs.switches.read_labels.Given as goal

abbrev pub invariant-loop-first : goal.invariant-loop-first
invariant-loop-first l = AreEachRead SpellsLabel l.labels l.words l.rest

abbrev pub decreases-loop-first : goal.decreases-loop-first
decreases-loop-first l = length l.rest
