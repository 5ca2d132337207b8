use Rattle.kb_asm_text.proofs.TokenLaws.{flags_refuted_high, flags_refuted_low}
use Rattle.kb_asm_text.proofs.tokens.read_flags.Goals as goal

pub returns-in_err-high : goal.returns-in_err-high
returns-in_err-high c = rw c.from_residual.ensures (flags_refuted_high c.args.word.now c.in_err-high.ensures)

pub returns-in_err-low : goal.returns-in_err-low
returns-in_err-low c = rw c.from_residual-in_err-low.ensures (flags_refuted_low c.args.word.now c.in_err-low.ensures)
