-- The bytes of numbers.
use Rattle.std.proofs.Common.{◌≡◌, ℕ, suc, zero, ◌<◌, Bool, true, false, cond, eqb, List, [], ◌∷◌, drop, refl, arith}
use Rattle.std.specs.Prelude.{ℤ}
use Rattle.std.specs.Str.{IsUtf8, IsAscii}
use Rattle.std.specs.Str.Parse.{AllDigits, IsNumeral, without_leading_sign}
use Rattle.std.specs.Char.{digit_value}
use Rattle.std.proofs.lemmas.Str.{IsUtf8-from_ascii}
use Rattle.std.proofs.lemmas.Bool.Decides.{nat_tests}
use Rattle.kb_dimacs_text.specs.Numbers.{SpellsDimacsNumber}

digit_below : (c : ℕ) → digit_value c < 10 → c < 128
digit_below c h = grind (arith, nat_tests)

IsAscii-cons : (b : ℕ) (bs : List ℕ) → b < 128 → IsAscii bs → IsAscii (b ∷ bs)
IsAscii-cons b bs p q zero = p
IsAscii-cons b bs p q (suc i) = q i

digits_below : (ds : List ℕ) → AllDigits 10 ds → IsAscii ds
digits_below [] p = λ i. omega arith
digits_below (d ∷ ds) p = IsAscii-cons d ds (digit_below d p.0) (digits_below ds p.1)

-- a number is ASCII
number_is_ascii : (word : List ℕ) → IsNumeral 10 (without_leading_sign word) → IsAscii word
number_is_ascii [] p = λ i. omega arith
number_is_ascii (b ∷ bs) p = go (eqb b 45) (eqb b 43) refl refl p.1
  where
    go : (minus plus : Bool) → eqb b 45 ≡ minus → eqb b 43 ≡ plus
        → AllDigits 10 (cond minus bs (drop (cond plus 1 0) (b ∷ bs))) → IsAscii (b ∷ bs)
    go true plus m p q = IsAscii-cons b bs (grind (arith, nat_tests)) (digits_below bs q)
    go false true m p q = IsAscii-cons b bs (grind (arith, nat_tests)) (digits_below bs q)
    go false false m p q = digits_below (b ∷ bs) q

pub number_is_utf8 : (number : ℤ) (word : List ℕ) → SpellsDimacsNumber number word → IsUtf8 word
number_is_utf8 number word spells = IsUtf8-from_ascii word (number_is_ascii word spells.0)
