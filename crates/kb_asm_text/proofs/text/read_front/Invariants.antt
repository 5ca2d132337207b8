use Rattle.std.proofs.Common.{length}
use Rattle.kb_asm_text.specs.Texts.{AreRead}
use Rattle.kb_asm_text.proofs.text.read_front.Given as goal

abbrev pub invariant-loop-line : goal.invariant-loop-line
invariant-loop-line l = AreRead l.lines l.place l.text l.rest

abbrev pub decreases-loop-line : goal.decreases-loop-line
decreases-loop-line l = length l.rest
