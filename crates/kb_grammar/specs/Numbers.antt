-- Numbers with one spelling each: digits without a leading zero, and a `-` before those of a negative one.
use Rattle.std.specs.Prelude.{◌≡◌, ℕ, ◌+◌, ◌-◌, ◌*◌, ◌≤◌, ◌<◌, ◌^◌, ◌&&◌, nat_le, Option, None, Some, List, [], ◌∷◌, ◌++◌, if◌then◌else◌, ℤ, option_and_then}
use Rattle.std.specs.Fmt.{decimal, signed_decimal}
use Rattle.std.specs.Int.RustNames.{FitsSigned}
use mir.Syntax.{w32}

-- a number up to the limit
abbrev pub SpellsWithin : ℕ → ℕ → List ℕ → Type 0
SpellsWithin limit number text = (number ≤ limit) × (text ≡ decimal number)

-- a number of 32 bits
abbrev pub SpellsNumber : ℕ → List ℕ → Type 0
SpellsNumber number text = (number < 2 ^ 32) × (text ≡ decimal number)

-- a number of 32 bits behind that front
abbrev pub SpellsNumberBehind : List ℕ → ℕ → List ℕ → Type 0
SpellsNumberBehind front number text = (number < 2 ^ 32) × (text ≡ front ++ decimal number)

-- an int
abbrev pub SpellsInt : ℤ → List ℕ → Type 0
SpellsInt number text = FitsSigned w32 number × (text ≡ signed_decimal number)

-- the number with one digit more behind it, if the byte is a digit and the number stays within the limit
abbrev pub with_digit : ℕ → ℕ → ℕ → Option ℕ
with_digit limit number byte = if nat_le 48 byte && (nat_le byte 57 && nat_le (number * 10 + (byte - 48)) limit) then Some (number * 10 + (byte - 48)) else None

-- the number with all these digits more behind it
abbrev pub with_digits : ℕ → ℕ → List ℕ → Option ℕ
with_digits limit number [] = Some number
with_digits limit number (byte ∷ bytes) = option_and_then (λ longer. with_digits limit longer bytes) (with_digit limit number byte)
