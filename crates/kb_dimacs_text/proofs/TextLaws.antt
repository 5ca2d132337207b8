-- Numbers on lines.
use Rattle.std.proofs.Common.{◌≡◌, ℕ, zero, suc, ◌+◌, ◌<◌, ◌≤◌, ◌^◌, List, [], ◌∷◌, ◌++◌, length, drop, get_or, refl, sym, ◌∙◌, ap, arith, append_assoc, add-one, Bool, true, false}
use Rattle.std.specs.Prelude.{ℤ, pos, negsuc, codes}
use Rattle.std.specs.Fmt.{decimal, signed_decimal}
use Rattle.std.specs.Int.RustNames.{FitsSigned}
use Rattle.std.proofs.Math.Seq.{drop-cons}
use Rattle.std.proofs.lemmas.List.{drop_all}
use Rattle.std.proofs.lemmas.Int.{ints}
use Rattle.std.proofs.lemmas.Fmt.{length_signed_le, decimal_digit}
use lib.Signed.{mag}
use mir.Syntax.{w32}
use Rattle.kb_chain.specs.Literal.{literal, number_of}
use Rattle.kb_dimacs_text.specs.Texts.{placed, column_behind, all_placed, value_words}

int_mag : (number : ℤ) → FitsSigned w32 number → mag number < 2 ^ 31 + 1
int_mag (pos n) h = omega (arith, ints, h)
int_mag (negsuc n) h = omega (arith, ints, h)

pub int_length : (number : ℤ) → FitsSigned w32 number → length (signed_decimal number) ≤ 11
int_length number fits =
    let small = int_mag number fits in
    length_signed_le 10 number (omega (arith, small)) (omega (arith, small))

-- a literal's number is an int
pub literal_fits : (variable : ℕ) (positive : Bool) → variable < 2 ^ 31 → FitsSigned w32 (number_of (literal variable positive))
literal_fits variable true small = omega (arith, ints)
literal_fits zero false small = omega (arith, ints)
literal_fits (suc n) false small = omega (arith, ints)

-- one more word
pub placed_first : (column : ℕ) (word : List ℕ) (words : List (List ℕ)) → all_placed column (word ∷ words) ≡ placed column word ++ all_placed (column_behind column word) words
unfolding all_placed
placed_first column word words = refl

pub placed_last : (column : ℕ) → all_placed column [] ≡ codes "\n"
unfolding all_placed
placed_last column = refl

pub place_one : (text more all : List ℕ) (column end variable : ℕ) (bits : List Bool) (i : ℕ) → i < length bits
    → all ≡ text ++ all_placed column (value_words variable (drop i bits))
    → more ≡ text ++ placed column (signed_decimal (number_of (literal variable (get_or bits i false))))
    → end ≡ column_behind column (signed_decimal (number_of (literal variable (get_or bits i false))))
    → all ≡ more ++ all_placed end (value_words (variable + 1) (drop (i + 1) bits))
place_one text more all column end variable bits i lt e f g =
    let word = signed_decimal (number_of (literal variable (get_or bits i false))) in
    let rest = value_words (variable + 1) (drop (i + 1) bits) in
    let parts : drop i bits ≡ get_or bits i false ∷ drop (i + 1) bits = rw (add-one, drop-cons bits i false lt) refl in
    e ∙ (ap (λ (l : List Bool). text ++ all_placed column (value_words variable l)) parts
    ∙ (ap (λ (l : List ℕ). text ++ l) (placed_first column word rest)
    ∙ (sym (append_assoc text (placed column word) (all_placed (column_behind column word) rest))
    ∙ (ap (λ (l : List ℕ). l ++ all_placed (column_behind column word) rest) (sym f) ∙ ap (λ (n : ℕ). more ++ all_placed n rest) (sym g)))))

-- how 0 is written
pub zero_digits : decimal 0 ≡ codes "0"
zero_digits = decimal_digit 0 (omega arith)

pub place_end : (text more last all : List ℕ) (column variable : ℕ) (bits : List Bool) (i : ℕ) → length bits ≤ i
    → all ≡ text ++ all_placed column (value_words variable (drop i bits))
    → more ≡ text ++ placed column (codes "0") → last ≡ more ++ codes "\n" → last ≡ all
place_end text more last all column variable bits i le e f g =
    g ∙ (ap (λ (l : List ℕ). l ++ codes "\n") f
    ∙ (append_assoc text (placed column (codes "0")) (codes "\n")
    ∙ (ap (λ (l : List ℕ). text ++ (placed column (codes "0") ++ l)) (sym (placed_last (column_behind column (codes "0"))))
    ∙ (ap (λ (l : List ℕ). text ++ l) (sym (placed_first column (codes "0") []))
    ∙ (ap (λ (l : List Bool). text ++ all_placed column (value_words variable l)) (sym (drop_all i bits le)) ∙ sym e)))))
