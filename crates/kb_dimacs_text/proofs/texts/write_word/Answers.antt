use Rattle.std.proofs.Common.{◌≡◌, length, arith, ap, rules, string_bytes}
use Rattle.std.specs.Prelude.{ℤ}
use Rattle.std.specs.Fmt.{signed_decimal}
use Rattle.std.proofs.lemmas.Int.{to_z-of_z}
use mir.Syntax.{w32}
use Rattle.kb_dimacs_text.proofs.TextLaws.{int_length}
use Rattle.kb_dimacs_text.proofs.texts.write_word.Goals as goal

pub returns-clause-bound : goal.returns-clause-bound
returns-clause-bound c =
    let word : c.len-2.result ≡ length (string_bytes c.in_ok-word.word) = search rules in
    let number = ap (λ (z : ℤ). length (signed_decimal z)) (to_z-of_z w32 c.args.number c.ranges.number) in
    omega (arith, word, ap length c.in_ok-word.ensures.ok, number, int_length c.args.number c.ranges.number)
