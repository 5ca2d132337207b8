-- Arithmetic on ints: whole numbers brought to 32 bits in two's complement, as the instructions of the Java virtual machine
-- compute it (The Java Virtual Machine Specification, Java SE 8 Edition, section 2.3.1 on the type int, section 2.11.3 on
-- arithmetic, and section 6.5 for each instruction). An int is a ℤ from -2 ^ 31 to 2 ^ 31 - 1.
-- Each definition takes any two whole numbers; the laws on their results stand in proofs/Laws.antt.
use Rattle.std.specs.Prelude.{List, [], ◌∷◌, FitsSigned, ℕ, ◌/◌, ◌%◌, ◌^◌, ℤ, pos, negsuc, neg_ℤ, ◌+ℤ◌, ◌-ℤ◌, ◌*ℤ◌, Bool, true, false, cond, nat_lt, int_rem, int_lt}
use Rattle.std.specs.Int.{w8, w16, w32, int_wrap, int_wrapping_div, int_shl, int_shr, int_bit_and, int_bit_or, int_bit_xor, cast_signed, cast_unsigned}
use Rattle.std.specs.Ordering.{int_eq}

-- the least int, -2 ^ 31
abbrev pub minimum : ℤ
minimum = negsuc 2147483647

-- each entry of a list is an int
abbrev pub AreInts : List ℤ → Type 0
AreInts [] = Unit {0}
AreInts (x ∷ xs) = FitsSigned w32 x × AreInts xs

-- the 32 bits of an int, read as a number without sign
abbrev pub bits_of : ℤ → ℕ
bits_of a = cast_unsigned w32 a

-- the int with these 32 bits
abbrev pub int_of_bits : ℕ → ℤ
int_of_bits n = cast_signed w32 n

-- 1 for a comparison that holds, else 0
abbrev pub truth : Bool → ℤ
truth true = pos 1
truth false = pos 0

-- iadd, isub, imul: the low 32 bits of the true result
unfoldable pub word_add : ℤ → ℤ → ℤ
word_add a b = int_wrap w32 (a +ℤ b)

unfoldable pub word_sub : ℤ → ℤ → ℤ
word_sub a b = int_wrap w32 (a -ℤ b)

unfoldable pub word_mul : ℤ → ℤ → ℤ
word_mul a b = int_wrap w32 (a *ℤ b)

-- idiv: the quotient, rounded toward zero. The minimum by -1 is the minimum again. By 0, where the instruction throws, it is 0.
unfoldable pub word_div : ℤ → ℤ → ℤ
word_div a b = cond (int_eq b (pos 0)) (pos 0) (int_wrapping_div w32 a b)

-- irem: the remainder, with the sign of the dividend. By 0, where the instruction throws, it is 0.
unfoldable pub word_rem : ℤ → ℤ → ℤ
word_rem a b = cond (int_eq b (pos 0)) (pos 0) (int_rem a b)

-- ineg
unfoldable pub word_neg : ℤ → ℤ
word_neg a = int_wrap w32 (neg_ℤ a)

-- what a shift by b shifts by: the low five bits of b
abbrev pub shift_count : ℤ → ℕ
shift_count b = bits_of b % 32

-- ishl, ishr (which keeps the sign) and iushr (which shifts zeros in)
unfoldable pub word_shl : ℤ → ℤ → ℤ
word_shl a b = int_shl w32 a (shift_count b)

unfoldable pub word_shr : ℤ → ℤ → ℤ
word_shr a b = int_shr a (shift_count b)

unfoldable pub word_ushr : ℤ → ℤ → ℤ
word_ushr a b = int_of_bits (bits_of a / 2 ^ shift_count b)

-- iand, ior, ixor, bit by bit
unfoldable pub word_and : ℤ → ℤ → ℤ
word_and a b = int_bit_and w32 a b

unfoldable pub word_or : ℤ → ℤ → ℤ
word_or a b = int_bit_or w32 a b

unfoldable pub word_xor : ℤ → ℤ → ℤ
word_xor a b = int_bit_xor w32 a b

-- i2b and i2s: the low 8 and 16 bits, with their sign; i2c: the low 16 bits, without sign
unfoldable pub word_byte : ℤ → ℤ
word_byte a = cast_signed w8 (bits_of a % 2 ^ 8)

unfoldable pub word_char : ℤ → ℤ
word_char a = pos (bits_of a % 2 ^ 16)

unfoldable pub word_short : ℤ → ℤ
word_short a = cast_signed w16 (bits_of a % 2 ^ 16)

-- the comparisons of if_icmpeq and if_icmplt, and the comparison of the bits without sign
unfoldable pub word_eq : ℤ → ℤ → ℤ
word_eq a b = truth (int_eq a b)

unfoldable pub word_lt : ℤ → ℤ → ℤ
word_lt a b = truth (int_lt a b)

unfoldable pub word_ult : ℤ → ℤ → ℤ
word_ult a b = truth (nat_lt (bits_of a) (bits_of b))
