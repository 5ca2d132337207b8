use Rattle.std.proofs.Common.{subst}
use Rattle.kb_asm_text.specs.Lines.{SpellsCatch}
use Rattle.kb_asm_text.proofs.heads.read_catch.Goals as goal

pub returns-in_default-3 : goal.returns-in_default-3
returns-in_default-3 c =
    λ row h. (rw c.in_default-3.is at c.in_ok-target.ensures) row.target row.class
    (subst (SpellsCatch row) c.in-Some.ensures h).2 (subst (SpellsCatch row) c.in-Some.ensures h).3
