use Rattle.std.proofs.Common.{subst}
use Rattle.kb_asm_text.specs.Words.{OneWord}
use Rattle.kb_asm_text.specs.Tokens.{SpellsByteHex}
use Rattle.kb_asm_text.proofs.reading.raw_line.Goals as goal

pub returns-in_err-byte : goal.returns-in_err-byte
returns-in_err-byte c = rw c.from_residual-in_err-byte.ensures (λ line h. c.in_err-byte.ensures h.0 (subst (OneWord (SpellsByteHex h.0)) c.in_ok-one_word.ensures h.2))
