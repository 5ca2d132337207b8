use Rattle.std.proofs.Common.{◌+◌, ◌<◌, ◌++◌, ◌∙◌, ap, sym, subst, List, ℕ, false, get_or, length, arith, string_bytes}
use Rattle.std.specs.Prelude.{ℤ}
use Rattle.std.specs.Fmt.{signed_decimal}
use Rattle.std.proofs.lemmas.Int.{to_z-of_z}
use Rattle.std.specs.Int.RustNames.{FitsSigned}
use mir.Syntax.{w32}
use Rattle.kb_chain.specs.Literal.{number_of}
use Rattle.kb_dimacs_text.specs.Texts.{placed, column_behind}
use Rattle.kb_dimacs_text.proofs.TextLaws.{place_one, place_end, zero_digits, literal_fits}
use Rattle.kb_dimacs_text.proofs.texts.write_values.Goals as goal

pub loop-place-preserved : goal.loop-place-preserved
loop-place-preserved c =
    let bits = c.args.bits.now in
    let literal_is = c.number.ensures ∙ ap number_of c.new-literal.ensures in
    let lt : c.loop-place.place < length bits = c.loop-place-test.true in
    let fits = subst (FitsSigned w32) (sym literal_is) (literal_fits (c.loop-place.place + 1) (get_or bits c.loop-place.place false) (omega (arith, lt, c.requires))) in
    let number = to_z-of_z w32 c.number.result fits ∙ literal_is in
    record {
      text = place_one _ _ _ c.loop-place.column c.in_ok-column.column (c.loop-place.place + 1) c.args.bits.now c.loop-place.place c.loop-place-test.true c.loop-place.invariant.text
          (c.in_ok-column.ensures.text ∙ ap (λ (z : ℤ). string_bytes c.loop-place.text ++ placed c.loop-place.column (signed_decimal z)) number)
          (c.in_ok-column.ensures.column ∙ ap (λ (z : ℤ). column_behind c.loop-place.column (signed_decimal z)) number);
      column = c.in_ok-column.ensures.bound;
    }

pub returns : goal.returns
returns c = place_end _ _ _ _ c.loop-place.column (c.loop-place.place + 1) c.args.bits.now c.loop-place.place c.loop-place-test.false c.loop-place.invariant.text
    (c.in_ok-write_word.ensures.text ∙ ap (λ (w : List ℕ). string_bytes c.loop-place.text ++ placed c.loop-place.column w) zero_digits) c.in_ok-push_str.ensures.bytes
