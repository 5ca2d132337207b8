use Rattle.kb_asm_text.proofs.reading.catch_line.Goals as goal

pub returns-in-None : goal.returns-in-None
returns-in-None c = λ value h. (rw c.in-None.is at c.in_ok-row.ensures) h.0 h.2
