-- Sums, differences and comparisons of words of 32 bits are those of ints.
use Rattle.std.proofs.Common.{◌≡◌, ℕ, ◌+◌, ◌-◌, ◌*◌, ◌%◌, ◌^◌, ◌<◌, ◌≤◌, ℤ, Bool, true, false, not, nat_lt, refl, sym, ap, ◌∙◌, arith, FitsSigned, w32}
use Rattle.std.proofs.lemmas.Bool.{ltb-true, ltb-false}
use Rattle.kb_arith.specs.Word.{bits_of, int_of_bits, truth, word_add, word_sub, word_neg, word_ult}
use Rattle.kb_arith.proofs.Laws.{int_of_bits-bits_of, bits_of-int_of_bits, int_of_bits-fits, word_add-fits, word_sub-fits, word_neg-fits, bits_of-word_add, bits_of-word_sub, bits_of-word_neg}
use Rattle.kb_circuit.specs.Meaning.{bit}

pub from_bits : (n : ℕ) (x : ℤ) → FitsSigned w32 x → n ≡ bits_of x → int_of_bits n ≡ x
from_bits n x f e = ap int_of_bits e ∙ int_of_bits-bits_of x f

-- the numbers of a sum, with its carry
sum_mod : (s a b : ℕ) (o : Bool) → s < 2 ^ 32 → s + 2 ^ 32 * bit o ≡ a + b + 0 → s ≡ (a + b) % 2 ^ 32
sum_mod s a b true lt e = omega arith
sum_mod s a b false lt e = omega arith

difference_mod : (s a b n : ℕ) (o : Bool) → s < 2 ^ 32 → n + b + 1 ≡ 2 ^ 32 → s + 2 ^ 32 * bit o ≡ a + n + 1 → s ≡ (a + (2 ^ 32 - b)) % 2 ^ 32
difference_mod s a b n true lt k e = omega arith
difference_mod s a b n false lt k e = omega arith

pub int_sum : (s a b : ℕ) (o : Bool) → s < 2 ^ 32 → a < 2 ^ 32 → b < 2 ^ 32 → s + 2 ^ 32 * bit o ≡ a + b + 0 → int_of_bits s ≡ word_add (int_of_bits a) (int_of_bits b)
int_sum s a b o lt at bt e =
    let n : s ≡ (bits_of (int_of_bits a) + bits_of (int_of_bits b)) % 2 ^ 32 = rw (bits_of-int_of_bits a at, bits_of-int_of_bits b bt) (sum_mod s a b o lt e) in
    from_bits s _ (word_add-fits (int_of_bits a) (int_of_bits b)) (n ∙ sym (bits_of-word_add (int_of_bits a) (int_of_bits b) (int_of_bits-fits a) (int_of_bits-fits b)))

pub int_difference : (s a b n : ℕ) (o : Bool) → s < 2 ^ 32 → a < 2 ^ 32 → b < 2 ^ 32 → n + b + 1 ≡ 2 ^ 32 → s + 2 ^ 32 * bit o ≡ a + n + 1
    → int_of_bits s ≡ word_sub (int_of_bits a) (int_of_bits b)
int_difference s a b n o lt at bt k e =
    let m : s ≡ (bits_of (int_of_bits a) + (2 ^ 32 - bits_of (int_of_bits b))) % 2 ^ 32 = rw (bits_of-int_of_bits a at, bits_of-int_of_bits b bt) (difference_mod s a b n o lt k e) in
    from_bits s _ (word_sub-fits (int_of_bits a) (int_of_bits b)) (m ∙ sym (bits_of-word_sub (int_of_bits a) (int_of_bits b) (int_of_bits-fits a) (int_of_bits-fits b)))

pub negative_mod : (s a z n : ℕ) (o : Bool) → s < 2 ^ 32 → z ≡ 0 → n + a + 1 ≡ 2 ^ 32 → s + 2 ^ 32 * bit o ≡ z + n + 1 → s ≡ (2 ^ 32 - a) % 2 ^ 32
negative_mod s a z n true lt h k e = omega arith
negative_mod s a z n false lt h k e = omega arith

pub int_negative : (s a z n : ℕ) (o : Bool) → s < 2 ^ 32 → a < 2 ^ 32 → z ≡ 0 → n + a + 1 ≡ 2 ^ 32 → s + 2 ^ 32 * bit o ≡ z + n + 1
    → int_of_bits s ≡ word_neg (int_of_bits a)
int_negative s a z n o lt at h k e =
    let m : s ≡ (2 ^ 32 - bits_of (int_of_bits a)) % 2 ^ 32 = rw (bits_of-int_of_bits a at) (negative_mod s a z n o lt h k e) in
    from_bits s _ (word_neg-fits (int_of_bits a)) (m ∙ sym (bits_of-word_neg (int_of_bits a) (int_of_bits-fits a)))

-- the last carry of a difference tells which number is less
pub carry_below : (s a b n : ℕ) (o : Bool) → s < 2 ^ 32 → n + b + 1 ≡ 2 ^ 32 → s + 2 ^ 32 * bit o ≡ a + n + 1 → not o ≡ nat_lt a b
carry_below s a b n true lt k e = go (nat_lt a b) refl
  where
    go : (t : Bool) → nat_lt a b ≡ t → false ≡ t
    go true h = let l : a < b = ltb-true a b h in absurd (omega arith)
    go false h = refl
carry_below s a b n false lt k e = go (nat_lt a b) refl
  where
    go : (t : Bool) → nat_lt a b ≡ t → true ≡ t
    go true h = refl
    go false h = let l : b ≤ a = ltb-false a b h in absurd (omega arith)

pub int_below : (a b : ℕ) → a < 2 ^ 32 → b < 2 ^ 32 → truth (nat_lt a b) ≡ word_ult (int_of_bits a) (int_of_bits b)
unfolding word_ult
int_below a b at bt = rw (bits_of-int_of_bits a at, bits_of-int_of_bits b bt) refl

-- a word whose only bit is the lowest
pub int_truth : (b : Bool) (n : ℕ) → n ≡ 0 → int_of_bits (bit b + 2 * n) ≡ truth b
int_truth true n e = rw e refl
int_truth false n e = rw e refl
