-- Numbers as bytes, the highest byte first (The Java Virtual Machine Specification, Java SE 8 Edition, section 4, on u1, u2
-- and u4).
use Rattle.std.specs.Prelude.{ℕ, ℤ, List, [], ◌∷◌}
use Rattle.std.specs.Int.{w8, w16, w32, cast_unsigned, to_be_bytes}

-- a number in two bytes, and in four
abbrev pub u2 : ℕ → List ℕ
u2 n = to_be_bytes w16 n

abbrev pub u4 : ℕ → List ℕ
u4 n = to_be_bytes w32 n

-- an int with its sign in one byte, in two and in four: two's complement
abbrev pub byte : ℤ → List ℕ
byte z = cast_unsigned w8 z ∷ []

abbrev pub short : ℤ → List ℕ
short z = u2 (cast_unsigned w16 z)

abbrev pub int : ℤ → List ℕ
int z = u4 (cast_unsigned w32 z)
