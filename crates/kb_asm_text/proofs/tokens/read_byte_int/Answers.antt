use Rattle.std.proofs.Common.{subst, ℤ, FitsSigned, OkIff}
use Rattle.std.proofs.lemmas.Int.{to_z-of_z}
use mir.Syntax.{w8, w32}
use Rattle.kb_asm_text.proofs.TokenLaws.{byte_read}
use Rattle.kb_asm_text.proofs.tokens.read_byte_int.Goals as goal

pub returns : goal.returns
returns c =
    let number = c.in_ok-read_int.field-0 in
    rw c.ok.ensures.value (byte_read number c.args.word.now c.try_from.result c.in_ok-read_int.ensures
    (subst (λ (z : ℤ). OkIff c.try_from.result (FitsSigned w8 z) z) (to_z-of_z w32 number c.in_ok-read_int.ensures.0) c.try_from.ensures))
