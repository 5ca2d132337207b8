-- Numbers as words.
use Rattle.std.specs.Prelude.{◌≡◌, ℕ, ℤ, List, [], ◌∷◌}
use Rattle.std.specs.Str.Parse.{IsNumeral, without_leading_sign, signed_digits_value}

-- digits, with a sign before them or none
abbrev pub SpellsDimacsNumber : ℤ → List ℕ → Type 0
SpellsDimacsNumber number word = IsNumeral 10 (without_leading_sign word) × (signed_digits_value 10 word ≡ number)

-- number by number
abbrev pub SpellNumbers : List ℤ → List (List ℕ) → Type 0
SpellNumbers [] [] = Unit {0}
SpellNumbers [] (word ∷ words) = ⊥
SpellNumbers (number ∷ numbers) [] = ⊥
SpellNumbers (number ∷ numbers) (word ∷ words) = SpellsDimacsNumber number word × SpellNumbers numbers words
