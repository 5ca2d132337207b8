use Rattle.std.proofs.Common.{subst}
use Rattle.kb_asm_text.specs.Lines.{SpellsClassHead}
use Rattle.kb_asm_text.proofs.heads.read_class.Goals as goal

pub returns-in_default-read_flags : goal.returns-in_default-read_flags
returns-in_default-read_flags c = λ head h. c.in_default-read_flags.ensures head.access (subst (SpellsClassHead head) c.in-Some.ensures h).0
