-- Laws of the arithmetic on ints: each result is an int, the bits of each result, and the minimum by -1.
use Rattle.std.proofs.Common.{List, [], ◌∷◌, ◌++◌, zero, get_or, ◌≡◌, ℕ, suc, ◌+◌, ◌-◌, ◌*◌, ◌/◌, ◌%◌, ◌^◌, ◌<◌, refl, sym, ap, ◌∙◌, Bool, true, false, cond, ℤ, pos, negsuc, ◌≢◌, FitsSigned, w8, w16, w32, arith}
use Rattle.std.proofs.lemmas.Int.{of_z-to_z, to_z-of_z, SFits-int_wrap, wrapping_add_is, wrapping_sub_is, wrapping_mul_is, wrapping_neg_is}
use borrow.Author.Gap.{read_sfits}
use Rattle.std.specs.Int.Bits.{and_lt, or_lt, xor_lt}
use Rattle.std.specs.Int.Signed.{mag_rem, mag_shr}
use Rattle.std.proofs.Math.Nat.{div-le_self}
use Rattle.std.proofs.lemmas.Bool.Decides.{Decides-int_eq}
use Rattle.std.specs.Int.{int_wrapping_div}
use Rattle.std.specs.Prelude.{int_div, int_rem, bit_and, bit_or, bit_xor}
use Rattle.std.specs.Ordering.{int_eq}
use Rattle.kb_arith.specs.Word.{AreInts, minimum, bits_of, int_of_bits, truth, shift_count, word_add, word_sub, word_mul, word_div, word_rem, word_neg, word_shl, word_shr, word_ushr, word_and, word_or, word_xor, word_byte, word_char, word_short, word_eq, word_lt, word_ult}

-- ---- ints and their bits

pub int_of_bits-bits_of : (a : ℤ) → FitsSigned w32 a → int_of_bits (bits_of a) ≡ a
int_of_bits-bits_of a f = to_z-of_z w32 a f

pub bits_of-int_of_bits : (n : ℕ) → n < 2 ^ 32 → bits_of (int_of_bits n) ≡ n
bits_of-int_of_bits n h = of_z-to_z w32 n h

pub bits_of-below : (a : ℤ) → FitsSigned w32 a → bits_of a < 2 ^ 32
bits_of-below (pos n) f = let h : n < 2 ^ 31 = f.sfits in omega (arith, h)
bits_of-below (negsuc n) f = omega arith

-- two's complement: an int that is not negative is its bits, and a negative one is its bits less 2 ^ 32
pub bits_of-pos : (n : ℕ) → bits_of (pos n) ≡ n
bits_of-pos n = refl

pub bits_of-negsuc : (n : ℕ) → n < 2 ^ 31 → bits_of (negsuc n) + suc n ≡ 2 ^ 32
bits_of-negsuc n h = omega arith

pub int_of_bits-fits : (n : ℕ) → FitsSigned w32 (int_of_bits n)
int_of_bits-fits n = read_sfits w32 n

pub truth-fits : (b : Bool) → FitsSigned w32 (truth b)
truth-fits true = record { sfits = omega arith }
truth-fits false = record { sfits = omega arith }

-- ---- each result is an int

pub word_add-fits : (a b : ℤ) → FitsSigned w32 (word_add a b)
unfolding word_add
word_add-fits a b = SFits-int_wrap w32 _

pub word_sub-fits : (a b : ℤ) → FitsSigned w32 (word_sub a b)
unfolding word_sub
word_sub-fits a b = SFits-int_wrap w32 _

pub word_mul-fits : (a b : ℤ) → FitsSigned w32 (word_mul a b)
unfolding word_mul
word_mul-fits a b = SFits-int_wrap w32 _

pub word_neg-fits : (a : ℤ) → FitsSigned w32 (word_neg a)
unfolding word_neg
word_neg-fits a = SFits-int_wrap w32 _

pub word_shl-fits : (a b : ℤ) → FitsSigned w32 (word_shl a b)
unfolding word_shl
word_shl-fits a b = int_of_bits-fits _

pub word_ushr-fits : (a b : ℤ) → FitsSigned w32 (word_ushr a b)
unfolding word_ushr
word_ushr-fits a b = int_of_bits-fits _

pub word_and-fits : (a b : ℤ) → FitsSigned w32 (word_and a b)
unfolding word_and
word_and-fits a b = int_of_bits-fits _

pub word_or-fits : (a b : ℤ) → FitsSigned w32 (word_or a b)
unfolding word_or
word_or-fits a b = int_of_bits-fits _

pub word_xor-fits : (a b : ℤ) → FitsSigned w32 (word_xor a b)
unfolding word_xor
word_xor-fits a b = int_of_bits-fits _

pub word_eq-fits : (a b : ℤ) → FitsSigned w32 (word_eq a b)
unfolding word_eq
word_eq-fits a b = truth-fits _

pub word_lt-fits : (a b : ℤ) → FitsSigned w32 (word_lt a b)
unfolding word_lt
word_lt-fits a b = truth-fits _

pub word_ult-fits : (a b : ℤ) → FitsSigned w32 (word_ult a b)
unfolding word_ult
word_ult-fits a b = truth-fits _

pub word_byte-fits : (a : ℤ) → FitsSigned w32 (word_byte a)
unfolding word_byte
word_byte-fits a = let f = (read_sfits w8 (bits_of a % 2 ^ 8)).sfits in record { sfits = omega (arith, f) }

pub word_short-fits : (a : ℤ) → FitsSigned w32 (word_short a)
unfolding word_short
word_short-fits a = let f = (read_sfits w16 (bits_of a % 2 ^ 16)).sfits in record { sfits = omega (arith, f) }

pub word_char-fits : (a : ℤ) → FitsSigned w32 (word_char a)
unfolding word_char
word_char-fits a = record { sfits = omega arith }

pub word_div-fits : (a b : ℤ) → FitsSigned w32 (word_div a b)
unfolding word_div
word_div-fits a b = go (int_eq b (pos 0))
  where
    go : (t : Bool) → FitsSigned w32 (cond t (pos 0) (int_wrapping_div w32 a b))
    go true = truth-fits false
    go false = int_of_bits-fits _

pub word_rem-fits : (a b : ℤ) → FitsSigned w32 a → FitsSigned w32 (word_rem a b)
unfolding word_rem
word_rem-fits a b f = go (int_eq b (pos 0))
  where
    go : (t : Bool) → FitsSigned w32 (cond t (pos 0) (int_rem a b))
    go true = truth-fits false
    go false = record { sfits = omega (arith, mag_rem a b, f.sfits) }

pub word_shr-fits : (a b : ℤ) → FitsSigned w32 a → FitsSigned w32 (word_shr a b)
unfolding word_shr
word_shr-fits a b f = record { sfits = omega (arith, mag_shr a (2 ^ shift_count b), f.sfits) }

-- ---- the bits of each result

pub bits_of-word_add : (a b : ℤ) → FitsSigned w32 a → FitsSigned w32 b → bits_of (word_add a b) ≡ (bits_of a + bits_of b) % 2 ^ 32
unfolding word_add
bits_of-word_add a b f g = ap bits_of (sym (wrapping_add_is w32 a b f g)) ∙ bits_of-int_of_bits _ (omega arith)

pub bits_of-word_sub : (a b : ℤ) → FitsSigned w32 a → FitsSigned w32 b → bits_of (word_sub a b) ≡ (bits_of a + (2 ^ 32 - bits_of b)) % 2 ^ 32
unfolding word_sub
bits_of-word_sub a b f g = ap bits_of (sym (wrapping_sub_is w32 a b f g)) ∙ bits_of-int_of_bits _ (omega arith)

pub bits_of-word_mul : (a b : ℤ) → FitsSigned w32 a → FitsSigned w32 b → bits_of (word_mul a b) ≡ (bits_of a * bits_of b) % 2 ^ 32
unfolding word_mul
bits_of-word_mul a b f g = ap bits_of (sym (wrapping_mul_is w32 a b f g)) ∙ bits_of-int_of_bits _ (omega arith)

pub bits_of-word_neg : (a : ℤ) → FitsSigned w32 a → bits_of (word_neg a) ≡ (2 ^ 32 - bits_of a) % 2 ^ 32
unfolding word_neg
bits_of-word_neg a f = ap bits_of (sym (wrapping_neg_is w32 a f)) ∙ bits_of-int_of_bits _ (omega arith)

pub bits_of-word_shl : (a b : ℤ) → bits_of (word_shl a b) ≡ (bits_of a * 2 ^ shift_count b) % 2 ^ 32
unfolding word_shl
bits_of-word_shl a b = bits_of-int_of_bits _ (omega arith)

pub bits_of-word_ushr : (a b : ℤ) → FitsSigned w32 a → bits_of (word_ushr a b) ≡ bits_of a / 2 ^ shift_count b
unfolding word_ushr
bits_of-word_ushr a b f = bits_of-int_of_bits _ (omega (arith, bits_of-below a f, div-le_self (bits_of a) (2 ^ shift_count b)))

pub bits_of-word_and : (a b : ℤ) → FitsSigned w32 a → FitsSigned w32 b → bits_of (word_and a b) ≡ bit_and (bits_of a) (bits_of b)
unfolding word_and
bits_of-word_and a b f g = bits_of-int_of_bits _ (and_lt 32 (bits_of a) (bits_of b) (bits_of-below a f) (bits_of-below b g))

pub bits_of-word_or : (a b : ℤ) → FitsSigned w32 a → FitsSigned w32 b → bits_of (word_or a b) ≡ bit_or (bits_of a) (bits_of b)
unfolding word_or
bits_of-word_or a b f g = bits_of-int_of_bits _ (or_lt 32 (bits_of a) (bits_of b) (bits_of-below a f) (bits_of-below b g))

pub bits_of-word_xor : (a b : ℤ) → FitsSigned w32 a → FitsSigned w32 b → bits_of (word_xor a b) ≡ bit_xor (bits_of a) (bits_of b)
unfolding word_xor
bits_of-word_xor a b f g = bits_of-int_of_bits _ (xor_lt 32 (bits_of a) (bits_of b) (bits_of-below a f) (bits_of-below b g))

-- ---- division

-- the minimum by -1 is the minimum, and leaves 0
pub word_div-minimum : word_div minimum (negsuc 0) ≡ minimum
unfolding word_div
word_div-minimum = refl

pub word_rem-minimum : word_rem minimum (negsuc 0) ≡ pos 0
unfolding word_rem
word_rem-minimum = refl

-- by 0 both are 0
pub word_div-zero : (a : ℤ) → word_div a (pos 0) ≡ pos 0
unfolding word_div
word_div-zero a = refl

pub word_rem-zero : (a : ℤ) → word_rem a (pos 0) ≡ pos 0
unfolding word_rem
word_rem-zero a = refl

-- whether b is 0
not_zero : (b : ℤ) → b ≢ pos 0 → int_eq b (pos 0) ≡ false
not_zero b nonzero = go (int_eq b (pos 0)) refl
  where
    go : (t : Bool) → int_eq b (pos 0) ≡ t → t ≡ false
    go true e = absurd (nonzero ((Decides-int_eq b (pos 0)).0 e))
    go false e = refl

-- a quotient that is an int is the quotient, rounded toward zero
pub word_div-is : (a b : ℤ) → b ≢ pos 0 → FitsSigned w32 (int_div a b) → word_div a b ≡ int_div a b
unfolding word_div
word_div-is a b nonzero f = ap (λ t. cond t (pos 0) (int_wrapping_div w32 a b)) (not_zero b nonzero) ∙ to_z-of_z w32 (int_div a b) f

pub word_rem-is : (a b : ℤ) → b ≢ pos 0 → word_rem a b ≡ int_rem a b
unfolding word_rem
word_rem-is a b nonzero = ap (λ t. cond t (pos 0) (int_rem a b)) (not_zero b nonzero)

-- ---- lists of ints

pub AreInts-append : (xs ys : List ℤ) → AreInts xs → AreInts ys → AreInts (xs ++ ys)
AreInts-append [] ys h k = k
AreInts-append (x ∷ xs) ys h k = (h.0, AreInts-append xs ys h.1 k)

-- an entry, or 0 past the end, is an int
pub AreInts-get_or : (xs : List ℤ) (i : ℕ) → AreInts xs → FitsSigned w32 (get_or xs i (pos 0))
AreInts-get_or [] i h = truth-fits false
AreInts-get_or (x ∷ xs) zero h = h.0
AreInts-get_or (x ∷ xs) (suc i) h = AreInts-get_or xs i h.1

-- ---- comparisons

pub word_eq-same : (a b : ℤ) → word_eq a b ≡ pos 1 → a ≡ b
unfolding word_eq
word_eq-same a b = go (int_eq a b) refl
  where
    go : (t : Bool) → int_eq a b ≡ t → truth t ≡ pos 1 → a ≡ b
    go true e h = (Decides-int_eq a b).0 e
    go false e h = absurd (cc)

pub word_eq-itself : (a : ℤ) → word_eq a a ≡ pos 1
unfolding word_eq
word_eq-itself a = ap truth ((Decides-int_eq a a).1 refl)
