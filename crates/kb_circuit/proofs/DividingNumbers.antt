-- Quotients and remainders of ints from those of their absolute values.
use Rattle.std.proofs.Common.{◌≡◌, ℕ, zero, suc, ◌+◌, ◌-◌, ◌*◌, ◌/◌, ◌%◌, ◌^◌, ◌<◌, ◌≤◌, ℤ, pos, negsuc, neg_ℤ, nat_abs, Bool, true, false, not, cond, refl, sym, ap, ◌∙◌, arith, w32}
use Rattle.std.proofs.lemmas.Nat.{div-mul-add, mod-mul-add}
use Rattle.std.proofs.lemmas.Bool.Decides.{Decides-int_eq}
use Rattle.std.specs.Prelude.{int_div, int_rem}
use Rattle.std.specs.Int.{int_wrapping_div}
use Rattle.std.specs.Ordering.{int_eq}
use Rattle.kb_arith.specs.Word.{bits_of, int_of_bits, word_div, word_rem}
use Rattle.kb_arith.proofs.Laws.{word_div-zero, word_rem-zero}
use Rattle.kb_circuit.specs.Meaning.{bit}
use Rattle.kb_circuit.proofs.Comparing.{low_int, high_int}

-- ---- one turn

-- a number that is below a power of two has no bits from there on
pub low_part : (n t p x : ℕ) → n ≡ t + p * x → n < p → n ≡ t
low_part n t p zero e lt = e ∙ omega arith
low_part n t p (suc x) e lt = absurd (grind arith)

-- the difference s, with its carry c, of the longer remainder and the divisor
pub record Turned (d longer left : ℕ) (c : Bool) : Type 0 where
  pub taken : left + bit c * d ≡ longer
  pub less : left < d

pub turned : (p s d nd m longer left : ℕ) (c : Bool) → s < p → nd + d + 1 ≡ p → s + p * bit c ≡ m + nd + 1 → m ≡ longer → longer < 2 * d → left ≡ cond c s m → Turned d longer left c
turned p s d nd m longer left true lt k e f h g = record { taken = omega arith; less = omega arith }
turned p s d nd m longer left false lt k e f h g = record { taken = omega arith; less = omega arith }

-- the quotient and the remainder so far, and one more bit of each
pub one_more : (q r n d left : ℕ) (c b : Bool) → q * d + r ≡ n → left + bit c * d ≡ bit b + 2 * r → (bit c + 2 * q) * d + left ≡ bit b + 2 * n
one_more q r n d left c b e k = go (bit c) (bit b) k
  where
    go : (x y : ℕ) → left + x * d ≡ y + 2 * r → (x + 2 * q) * d + left ≡ y + 2 * n
    go x y k = let m : (x + 2 * q) * d ≡ x * d + 2 * (q * d) = grind arith in omega arith

-- ---- ints

-- n is the absolute value of the int with the bits a, which is negative where s is true
abbrev pub Sized : Bool → ℕ → ℕ → Type 0
Sized false a n = (a < 2 ^ 31) × (n ≡ a)
Sized true a n = (2 ^ 31 ≤ a) × (n + a ≡ 2 ^ 32)

bits_of-negative : (q : ℕ) → q < 2 ^ 32 → bits_of (neg_ℤ (pos q)) ≡ (2 ^ 32 - q) % 2 ^ 32
bits_of-negative zero lt = omega arith
bits_of-negative (suc q) lt = omega arith

int_of_bits-negative : (r : ℕ) → r < 2 ^ 31 → int_of_bits ((2 ^ 32 - r) % 2 ^ 32) ≡ neg_ℤ (pos r)
int_of_bits-negative zero lt = refl
int_of_bits-negative (suc r) lt =
    let m : (2 ^ 32 - suc r) % 2 ^ 32 ≡ 2 ^ 32 - suc r = omega arith in
    let h : 2 ^ 31 ≤ 2 ^ 32 - suc r = omega arith in
    let k : 2 ^ 32 - suc (2 ^ 32 - suc r) ≡ r = omega arith in
    ap int_of_bits m ∙ (high_int (2 ^ 32 - suc r) h ∙ ap negsuc k)

quotient_of : (q d r n : ℕ) → q * d + r ≡ n → r < d → n / d ≡ q
quotient_of q d r n e lt = ap (λ x. x / d) (sym e) ∙ div-mul-add q d r lt

remainder_of : (q d r n : ℕ) → q * d + r ≡ n → r < d → n % d ≡ r
remainder_of q d r n e lt = ap (λ x. x % d) (sym e) ∙ mod-mul-add q d r lt

quotient_less : (q d r n : ℕ) → q * d + r ≡ n → r < d → q ≤ n
quotient_less q zero r n e lt = absurd (omega arith)
quotient_less q (suc d) r n e lt = grind arith

int_not_zero : (b : ℕ) → 0 < b → int_eq (pos b) (pos 0) ≡ false
int_not_zero b lt = go (int_eq (pos b) (pos 0)) refl
  where
    go : (t : Bool) → int_eq (pos b) (pos 0) ≡ t → t ≡ false
    go true e = let z : b ≡ 0 = ap nat_abs ((Decides-int_eq (pos b) (pos 0)).0 e) in absurd (omega arith)
    go false e = refl

-- ---- the quotient with its sign

quotient_bits : (x y : ℤ) (o : ℕ) → int_eq y (pos 0) ≡ false → o ≡ bits_of (int_div x y) → int_of_bits o ≡ word_div x y
unfolding word_div
quotient_bits x y o z e = ap int_of_bits e ∙ sym (ap (λ t. cond t (pos 0) (int_wrapping_div w32 x y)) z)

-- the same numbers, of an absolute value that is given in another way
same_division : (q d r n e m : ℕ) → q * d + r ≡ n → n ≡ m → d ≡ e → q * e + r ≡ m
same_division q d r n e m h k j = sym (ap (λ x. q * x + r) j) ∙ (h ∙ k)

size_of_high : (a n : ℕ) → 2 ^ 31 ≤ a → a < 2 ^ 32 → n + a ≡ 2 ^ 32 → n ≡ suc (2 ^ 32 - suc a)
size_of_high a n h lt e = omega arith

signed_quotient : (sa sb : Bool) (a b n d q r o : ℕ) → Sized sa a n → Sized sb b d → a < 2 ^ 32 → b < 2 ^ 32 → 0 < d → q * d + r ≡ n → r < d
    → o ≡ cond (cond sa (not sb) sb) ((2 ^ 32 - q) % 2 ^ 32) q → int_of_bits o ≡ word_div (int_of_bits a) (int_of_bits b)
signed_quotient false false a b n d q r o h k at bt p e lt g =
    let f : d ≡ b = k.1 in
    let m : a / b ≡ q = quotient_of q b r a (same_division q d r n b a e h.1 f) (omega arith) in
    quotient_bits (pos a) (pos b) o (int_not_zero b (omega arith)) (g ∙ sym m)
    ∙ sym (ap (λ x. word_div x (int_of_bits b)) (low_int a h.0) ∙ ap (word_div (pos a)) (low_int b k.0))
signed_quotient false true a b n d q r o h k at bt p e lt g =
    let c : ℕ = 2 ^ 32 - suc b in
    let f : d ≡ suc c = size_of_high b d k.0 bt k.1 in
    let m : a / suc c ≡ q = quotient_of q (suc c) r a (same_division q d r n (suc c) a e h.1 f) (omega arith) in
    let u : q ≤ n = quotient_less q d r n e lt in
    let w : n ≡ a = h.1 in
    quotient_bits (pos a) (negsuc c) o refl (g ∙ (sym (bits_of-negative q (omega arith)) ∙ ap (λ x. bits_of (neg_ℤ (pos x))) (sym m)))
    ∙ sym (ap (λ x. word_div x (int_of_bits b)) (low_int a h.0) ∙ ap (word_div (pos a)) (high_int b k.0))
signed_quotient true false a b n d q r o h k at bt p e lt g =
    let z : ℕ = 2 ^ 32 - suc a in
    let w : n ≡ suc z = size_of_high a n h.0 at h.1 in
    let f : d ≡ b = k.1 in
    let m : suc z / b ≡ q = quotient_of q b r (suc z) (same_division q d r n b (suc z) e w f) (omega arith) in
    let u : q ≤ n = quotient_less q d r n e lt in
    let i : 2 ^ 31 ≤ a = h.0 in
    quotient_bits (negsuc z) (pos b) o (int_not_zero b (omega arith)) (g ∙ (sym (bits_of-negative q (omega arith)) ∙ ap (λ x. bits_of (neg_ℤ (pos x))) (sym m)))
    ∙ sym (ap (λ x. word_div x (int_of_bits b)) (high_int a h.0) ∙ ap (word_div (negsuc z)) (low_int b k.0))
signed_quotient true true a b n d q r o h k at bt p e lt g =
    let z : ℕ = 2 ^ 32 - suc a in
    let c : ℕ = 2 ^ 32 - suc b in
    let w : n ≡ suc z = size_of_high a n h.0 at h.1 in
    let f : d ≡ suc c = size_of_high b d k.0 bt k.1 in
    let m : suc z / suc c ≡ q = quotient_of q (suc c) r (suc z) (same_division q d r n (suc c) (suc z) e w f) (omega arith) in
    quotient_bits (negsuc z) (negsuc c) o refl (g ∙ sym m)
    ∙ sym (ap (λ x. word_div x (int_of_bits b)) (high_int a h.0) ∙ ap (word_div (negsuc z)) (high_int b k.0))

-- ---- the remainder with its sign

remainder_int : (x y z : ℤ) → int_eq y (pos 0) ≡ false → z ≡ int_rem x y → z ≡ word_rem x y
unfolding word_rem
remainder_int x y z h e = e ∙ sym (ap (λ t. cond t (pos 0) (int_rem x y)) h)

-- what is known of the divisor: its int, and that the int is not 0
pub record Divisor (b d : ℕ) : Type 0 where
  pub absolute : nat_abs (int_of_bits b) ≡ d
  pub nonzero : int_eq (int_of_bits b) (pos 0) ≡ false

divisor_of : (s : Bool) (b d : ℕ) → Sized s b d → b < 2 ^ 32 → 0 < d → Divisor b d
divisor_of false b d k bt p =
    let f : d ≡ b = k.1 in
    record { absolute = ap nat_abs (low_int b k.0) ∙ sym f; nonzero = ap (λ x. int_eq x (pos 0)) (low_int b k.0) ∙ int_not_zero b (omega arith) }
divisor_of true b d k bt p =
    record { absolute = ap nat_abs (high_int b k.0) ∙ sym (size_of_high b d k.0 bt k.1); nonzero = ap (λ x. int_eq x (pos 0)) (high_int b k.0) }

signed_remainder : (sa sb : Bool) (a b n d q r o : ℕ) → Sized sa a n → Sized sb b d → a < 2 ^ 32 → b < 2 ^ 32 → 0 < d → d ≤ 2 ^ 31 → q * d + r ≡ n → r < d
    → o ≡ cond sa ((2 ^ 32 - r) % 2 ^ 32) r → int_of_bits o ≡ word_rem (int_of_bits a) (int_of_bits b)
signed_remainder false sb a b n d q r o h k at bt p le e lt g =
    let v : Divisor b d = divisor_of sb b d k bt p in
    let m : a % d ≡ r = remainder_of q d r a (e ∙ h.1) lt in
    ap int_of_bits g ∙ low_int r (omega arith)
    ∙ remainder_int (int_of_bits a) (int_of_bits b) (pos r) v.nonzero
    (sym (ap (λ x. int_rem x (int_of_bits b)) (low_int a h.0) ∙ (ap (λ x. pos (a % x)) v.absolute ∙ ap pos m)))
signed_remainder true sb a b n d q r o h k at bt p le e lt g =
    let z : ℕ = 2 ^ 32 - suc a in
    let w : n ≡ suc z = size_of_high a n h.0 at h.1 in
    let v : Divisor b d = divisor_of sb b d k bt p in
    let m : suc z % d ≡ r = remainder_of q d r (suc z) (e ∙ w) lt in
    ap int_of_bits g ∙ int_of_bits-negative r (omega arith)
    ∙ remainder_int (int_of_bits a) (int_of_bits b) (neg_ℤ (pos r)) v.nonzero
    (sym (ap (λ x. int_rem x (int_of_bits b)) (high_int a h.0) ∙ (ap (λ x. neg_ℤ (pos (suc z % x))) v.absolute ∙ ap (λ x. neg_ℤ (pos x)) m)))

-- ---- both, also by 0

-- what is known of a division of absolute values, if the divisor is not 0
pub record Divides (d n q r : ℕ) : Type 0 where
  pub sum : q * d + r ≡ n
  pub less : r < d

pub size_at_most : (s : Bool) (b d : ℕ) → Sized s b d → d ≤ 2 ^ 31
size_at_most false b d h = let e : d ≡ b = h.1 in let lt : b < 2 ^ 31 = h.0 in omega arith
size_at_most true b d h = let e : d + b ≡ 2 ^ 32 = h.1 in let le : 2 ^ 31 ≤ b = h.0 in omega arith

size_positive : (s : Bool) (b d : ℕ) → Sized s b d → b < 2 ^ 32 → 0 < b → 0 < d
size_positive false b d h lt p = let e : d ≡ b = h.1 in omega arith
size_positive true b d h lt p = let e : d + b ≡ 2 ^ 32 = h.1 in omega arith

-- z is true where b is not 0
abbrev pub Tells : Bool → ℕ → Type 0
Tells false b = b ≡ 0
Tells true b = 0 < b

pub int_quotient : (sa sb z : Bool) (a b n d q r o : ℕ) → Sized sa a n → Sized sb b d → a < 2 ^ 32 → b < 2 ^ 32 → Tells z b → (0 < d → Divides d n q r)
    → o ≡ cond z (cond (cond sa (not sb) sb) ((2 ^ 32 - q) % 2 ^ 32) q) 0 → int_of_bits o ≡ word_div (int_of_bits a) (int_of_bits b)
int_quotient sa sb false a b n d q r o h k at bt t f g = ap int_of_bits g ∙ sym (ap (λ x. word_div (int_of_bits a) (int_of_bits x)) t ∙ word_div-zero (int_of_bits a))
int_quotient sa sb true a b n d q r o h k at bt t f g =
    let p : 0 < d = size_positive sb b d k bt t in
    let e : Divides d n q r = f p in
    signed_quotient sa sb a b n d q r o h k at bt p e.sum e.less g

pub int_remainder : (sa sb z : Bool) (a b n d q r o : ℕ) → Sized sa a n → Sized sb b d → a < 2 ^ 32 → b < 2 ^ 32 → Tells z b → (0 < d → Divides d n q r)
    → o ≡ cond z (cond sa ((2 ^ 32 - r) % 2 ^ 32) r) 0 → int_of_bits o ≡ word_rem (int_of_bits a) (int_of_bits b)
int_remainder sa sb false a b n d q r o h k at bt t f g = ap int_of_bits g ∙ sym (ap (λ x. word_rem (int_of_bits a) (int_of_bits x)) t ∙ word_rem-zero (int_of_bits a))
int_remainder sa sb true a b n d q r o h k at bt t f g =
    let p : 0 < d = size_positive sb b d k bt t in
    let e : Divides d n q r = f p in
    signed_remainder sa sb a b n d q r o h k at bt p (size_at_most sb b d k) e.sum e.less g
