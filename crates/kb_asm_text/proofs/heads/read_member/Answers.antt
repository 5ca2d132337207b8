use Rattle.kb_asm_text.proofs.heads.read_member.Goals as goal

pub returns-in_default : goal.returns-in_default
returns-in_default c = λ head h. c.in_default.ensures head.access h.0
