use Rattle.std.proofs.Common.{ℕ, subst}
use Rattle.kb_code.specs.Forms.{form_of}
use Rattle.kb_asm_text.specs.Shapes.{shape_of}
use Rattle.kb_asm_text.specs.Lines.{SpellsOperand}
use Rattle.kb_asm_text.proofs.HeadLaws.{same_op}
use Rattle.kb_asm_text.proofs.reading.instr_line.Goals as goal

pub returns-in-None : goal.returns-in-None
returns-in-None c = λ line h.
    let same = same_op h.0 c.in-Some.op c.args.first.now h.3 c.in-Some.ensures in
    (rw (c.in-None.is, c.shape_at.ensures) at c.in_ok-operand.ensures) h.1 (subst (λ (op : ℕ). SpellsOperand (shape_of (form_of op)) h.1 c.args.words.now) same h.4)
