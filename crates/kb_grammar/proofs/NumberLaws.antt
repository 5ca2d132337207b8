-- Digits and the number that they spell.
use Rattle.std.proofs.Common.{◌≡◌, ◌≢◌, ℕ, zero, suc, ◌+◌, ◌-◌, ◌*◌, ◌/◌, ◌%◌, ◌<◌, ◌≤◌, ◌^◌, Bool, true, false, if◌then◌else◌, Option, None, Some, List, [], ◌∷◌, ◌++◌, length, refl, sym, ◌∙◌, ap, append_assoc, append-nil, arith, subst, get_or, OkIff, Result, Ok, Err, MatchOption}
use Rattle.std.specs.Prelude.{ℤ, pos, negsuc, neg_ℤ, ◌-ℤ◌, nat_le, ◌&&◌, option_and_then}
use Rattle.std.proofs.lemmas.Bool.{le-leb, leb-true}
use Rattle.std.specs.Fmt.{decimal, signed_decimal}
use Rattle.std.specs.Int.RustNames.{FitsSigned}
use Rattle.std.proofs.lemmas.Fmt.{decimal_by_steps, decimal_step, decimal_digit, decimal_injective, decimal_nonempty, first_decimal}
use lib.Signed.{mag}
use Rattle.std.proofs.Math.IntN.{+ℤ_idl}
use mir.Syntax.{w32, w64}
use mir.Val.{to_z, of_z}
use Rattle.std.proofs.lemmas.Int.{ints, to_z-of_z}
use Rattle.std.specs.Result.{result_ok}
use Rattle.kb_grammar.specs.Lines.{Lacks, IsTail, IsRead}
use Rattle.kb_grammar.specs.Numbers.{SpellsWithin, SpellsNumber, SpellsInt, with_digit, with_digits}
use Rattle.kb_grammar.proofs.WordLaws.{Lacks-++, same_cut, same_behind, same_first}

pub Lacks-decimal : (byte number : ℕ) → byte < 48 → number < 2 ^ 64 → Lacks byte (decimal number)
Lacks-decimal byte number lt small =
    decimal_by_steps (λ (m : ℕ) (ds : List ℕ). Lacks byte ds)
    (λ m h. let ne : 48 + m ≢ byte = omega arith in (ne, tt))
    (λ m ds h before. let ne : 48 + m % 10 ≢ byte = omega arith in Lacks-++ byte ds ((48 + m % 10) ∷ []) before (ne, tt))
    number small

pub int_mag : (number : ℤ) → FitsSigned w32 number → mag number < 2 ^ 63
int_mag (pos n) h = omega (arith, ints, h)
int_mag (negsuc n) h = omega (arith, ints, h)

pub Lacks-signed : (byte : ℕ) (number : ℤ) → byte < 45 → FitsSigned w32 number → Lacks byte (signed_decimal number)
Lacks-signed byte (pos n) lt h = Lacks-decimal byte n (omega arith) (let m : n < 2 ^ 63 = int_mag (pos n) h in omega arith)
Lacks-signed byte (negsuc n) lt h =
    let ne : 45 ≢ byte = omega arith in
    let m : mag (negsuc n) < 2 ^ 63 = int_mag (negsuc n) h in
    (ne, Lacks-decimal byte (suc n) (omega arith) (omega (arith, m)))

-- numbers and what stands behind them
pub same_number : (front : List ℕ) (m n : ℕ) (us vs : List ℕ) → m < 2 ^ 32 → n < 2 ^ 32 → front ++ (decimal m ++ 32 ∷ us) ≡ front ++ (decimal n ++ 32 ∷ vs) → (m ≡ n) × (us ≡ vs)
same_number front m n us vs p q e =
    let small_m : m < 2 ^ 64 = omega arith in
    let small_n : n < 2 ^ 64 = omega arith in
    let cuts = same_cut 32 (decimal m) (decimal n) us vs (Lacks-decimal 32 m (omega arith) small_m) (Lacks-decimal 32 n (omega arith) small_n) (same_behind front _ _ e) in
    (decimal_injective m n small_m small_n cuts.0, cuts.1)

pub same_numbered : (end : ℕ) (front : List ℕ) (m n : ℕ) (us vs : List ℕ) → end < 48 → m < 2 ^ 32 → n < 2 ^ 32 → IsTail end us → IsTail end vs → front ++ (decimal m ++ us) ≡ front ++ (decimal n ++ vs) → (m ≡ n) × (us ≡ vs)
same_numbered end front m n us vs low p q h k e =
    let small_m : m < 2 ^ 64 = omega (arith, p) in
    let small_n : n < 2 ^ 64 = omega (arith, q) in
    let parts = same_first end (decimal m) (decimal n) us vs (Lacks-decimal end m low small_m) (Lacks-decimal end n low small_n) h k (same_behind front (decimal m ++ us) (decimal n ++ vs) e) in
    (decimal_injective m n small_m small_n parts.0, parts.1)

-- a digit that was taken
record IsTaken (limit number byte longer : ℕ) : Type 0 where
  digit : ℕ
  below_ten : digit < 10
  byte_is : byte ≡ 48 + digit
  longer_is : longer ≡ number * 10 + digit
  within : longer ≤ limit

pub take_digit : (limit number byte digit : ℕ) → digit < 10 → byte ≡ 48 + digit → number * 10 + digit ≤ limit → with_digit limit number byte ≡ Some (number * 10 + digit)
take_digit limit number byte digit lt byte_is within =
    let low : nat_le 48 byte ≡ true = le-leb 48 byte (omega arith) in
    let high : nat_le byte 57 ≡ true = le-leb byte 57 (omega arith) in
    let at : byte - 48 ≡ digit = omega arith in
    let fits : nat_le (number * 10 + (byte - 48)) limit ≡ true = le-leb _ _ (omega arith) in
    rw (low, high, fits, at) refl

digit_taken : (limit number byte longer : ℕ) → with_digit limit number byte ≡ Some longer → IsTaken limit number byte longer
digit_taken limit number byte longer = go (nat_le 48 byte) refl (nat_le byte 57) refl (nat_le (number * 10 + (byte - 48)) limit) refl
  where
    go : (a : Bool) → nat_le 48 byte ≡ a → (b : Bool) → nat_le byte 57 ≡ b → (c : Bool) → nat_le (number * 10 + (byte - 48)) limit ≡ c
        → (if a && (b && c) then Some (number * 10 + (byte - 48)) else None) ≡ Some longer → IsTaken limit number byte longer
    go true p true q true r e =
        let low : 48 ≤ byte = leb-true 48 byte p in
        let high : byte ≤ 57 = leb-true byte 57 q in
        let within : number * 10 + (byte - 48) ≤ limit = leb-true _ _ r in
        let same : number * 10 + (byte - 48) ≡ longer = cc in
        record { digit = byte - 48; below_ten = omega arith; byte_is = omega arith; longer_is = sym same; within = omega arith }
    go true p true q false r e = absurd cc
    go true p false q c r e = absurd cc
    go false p b q c r e = absurd cc

-- a number with a digit behind it
longer_text : (number digit longer : ℕ) → 0 < number → digit < 10 → longer ≡ number * 10 + digit → longer < 2 ^ 64 → decimal longer ≡ decimal number ++ (48 + digit) ∷ []
longer_text number digit longer some lt is small =
    let front : longer / 10 ≡ number = omega arith in
    let last : longer % 10 ≡ digit = omega arith in
    decimal_step longer (omega arith) small ∙ rw (front, last) refl

-- what the digits behind a number make of it
digits_read : (limit : ℕ) → limit < 2 ^ 32 → (bytes : List ℕ) (number all : ℕ) → 0 < number → number ≤ limit → with_digits limit number bytes ≡ Some all
    → (all ≤ limit) × (decimal number ++ bytes ≡ decimal all)
digits_read limit small [] number all some within e =
    let same : number ≡ all = cc in
    (subst (λ (n : ℕ). n ≤ limit) same within, append-nil (decimal number) ∙ ap decimal same)
digits_read limit small (byte ∷ bytes) number all some within e = go (λ n p q e. digits_read limit small bytes n all p q e) (with_digit limit number byte) refl e
  where
    go : ((n : ℕ) → 0 < n → n ≤ limit → with_digits limit n bytes ≡ Some all → (all ≤ limit) × (decimal n ++ bytes ≡ decimal all))
        → (step : Option ℕ) → with_digit limit number byte ≡ step → option_and_then (λ n. with_digits limit n bytes) step ≡ Some all → (all ≤ limit) × (decimal number ++ byte ∷ bytes ≡ decimal all)
    go rest None is e = absurd cc
    go rest (Some longer) is e =
        let taken = digit_taken limit number byte longer is in
        let positive : 0 < longer = omega (arith, taken.longer_is) in
        let below : longer < 2 ^ 64 = omega (arith, taken.within) in
        let others = rest longer positive taken.within e in
        let text : decimal longer ≡ decimal number ++ byte ∷ [] = longer_text number taken.digit longer some taken.below_ten taken.longer_is below ∙ ap (λ (b : ℕ). decimal number ++ b ∷ []) (sym taken.byte_is) in
        (others.0, sym (append_assoc (decimal number) (byte ∷ []) bytes) ∙ ap (λ (l : List ℕ). l ++ bytes) (sym text) ∙ others.1)

-- digits without a leading zero spell the number that is read of them
pub word_read : (limit : ℕ) → limit < 2 ^ 32 → (byte : ℕ) (bytes : List ℕ) (all : ℕ) → byte ≢ 48 → with_digits limit 0 (byte ∷ bytes) ≡ Some all → SpellsWithin limit all (byte ∷ bytes)
word_read limit small byte bytes all ne = go (with_digit limit 0 byte) refl
  where
    go : (step : Option ℕ) → with_digit limit 0 byte ≡ step → option_and_then (λ n. with_digits limit n bytes) step ≡ Some all → SpellsWithin limit all (byte ∷ bytes)
    go None is e = absurd cc
    go (Some first) is e =
        let taken = digit_taken limit 0 byte first is in
        let same : first ≡ taken.digit = omega (arith, taken.longer_is) in
        let positive : 0 < first = omega (arith, taken.byte_is, ne) in
        let text : decimal first ≡ byte ∷ [] = decimal_digit first (omega (arith, taken.below_ten)) ∙ ap (λ (b : ℕ). b ∷ []) (ap (λ (d : ℕ). 48 + d) same ∙ sym taken.byte_is) in
        let all_read = digits_read limit small bytes first all positive taken.within e in
        (all_read.0, ap (λ (l : List ℕ). l ++ bytes) (sym text) ∙ all_read.1)

with_digits-++ : (limit number middle : ℕ) (xs ys : List ℕ) → with_digits limit number xs ≡ Some middle → with_digits limit number (xs ++ ys) ≡ with_digits limit middle ys
with_digits-++ limit number middle [] ys e = let same : number ≡ middle = cc in ap (λ (n : ℕ). with_digits limit n ys) same
with_digits-++ limit number middle (x ∷ xs) ys e = go (λ n. with_digits-++ limit n middle xs ys) (with_digit limit number x) e
  where
    go : ((n : ℕ) → with_digits limit n xs ≡ Some middle → with_digits limit n (xs ++ ys) ≡ with_digits limit middle ys)
        → (step : Option ℕ) → option_and_then (λ n. with_digits limit n xs) step ≡ Some middle → option_and_then (λ n. with_digits limit n (xs ++ ys)) step ≡ with_digits limit middle ys
    go rest None e = absurd cc
    go rest (Some n) e = rest n e

-- the digits of a number are read as it
pub decimal_read : (limit number : ℕ) → limit < 2 ^ 32 → number ≤ limit → with_digits limit 0 (decimal number) ≡ Some number
decimal_read limit number small within_all =
    decimal_by_steps (λ (m : ℕ) (ds : List ℕ). m ≤ limit → with_digits limit 0 ds ≡ Some m)
    (λ m h within. ap (λ (o : Option ℕ). option_and_then (λ n. with_digits limit n []) o) (take_digit limit 0 (48 + m) m h refl (omega arith)) ∙ ap (λ (n : ℕ). Some n) (omega arith))
    (λ m ds h before within.
    let whole : m / 10 * 10 + m % 10 ≡ m = omega arith in
    let fits : m / 10 * 10 + m % 10 ≤ limit = omega arith in
    with_digits-++ limit 0 (m / 10) ds ((48 + m % 10) ∷ []) (before (omega arith))
    ∙ ap (λ (o : Option ℕ). option_and_then (λ n. with_digits limit n []) o) (take_digit limit (m / 10) (48 + m % 10) (m % 10) (omega arith) refl fits) ∙ ap (λ (n : ℕ). Some n) whole)
    number (omega arith) within_all

-- no word spells a number that is empty
pub no_digits : (limit number : ℕ) (word : List ℕ) → limit < 2 ^ 32 → length word < 1 → SpellsWithin limit number word → ⊥
no_digits limit number word small short spells = omega (arith, decimal_nonempty number (omega (arith, spells.0)), ap length spells.1)

-- or that begins with a zero and goes on
pub leading_zero : (limit number : ℕ) (word : List ℕ) → limit < 2 ^ 32 → get_or word 0 0 ≡ 48 → length word ≢ 1 → SpellsWithin limit number word → ⊥
leading_zero limit zero word small first long spells = long (ap length (spells.1 ∙ decimal_digit 0 (omega arith)))
leading_zero limit (suc number) word small first long spells =
    let above : 48 < get_or (decimal (suc number)) 0 0 = first_decimal (suc number) (omega arith) (omega (arith, spells.0)) in
    omega (arith, above, first, ap (λ (l : List ℕ). get_or l 0 0) spells.1)

pub one_zero : (limit : ℕ) (word : List ℕ) → get_or word 0 0 ≡ 48 → length word ≡ 1 → SpellsWithin limit 0 word
one_zero limit [] first long = absurd (omega (arith, long))
one_zero limit (byte ∷ []) first long = (omega arith, ap (λ (b : ℕ). b ∷ []) first ∙ sym (decimal_digit 0 (omega arith)))
one_zero limit (byte ∷ other ∷ bytes) first long = absurd (omega (arith, long))

-- what is read of other words
pub is_read : (limit : ℕ) (word : List ℕ) (read : Option ℕ) → limit < 2 ^ 32 → 1 ≤ length word → get_or word 0 0 ≢ 48 → read ≡ with_digits limit 0 word → IsRead (SpellsWithin limit) word read
is_read limit [] read small some first e = absurd (omega (arith, some))
is_read limit (byte ∷ bytes) (Some all) small some first e = word_read limit small byte bytes all first (sym e)
is_read limit (byte ∷ bytes) None small some first e = λ number spells.
    let read : with_digits limit 0 (byte ∷ bytes) ≡ Some number = ap (with_digits limit 0) spells.1 ∙ decimal_read limit number small spells.0 in
    cc

pub minus_not_first : (n : ℕ) (digits : List ℕ) → n < 2 ^ 63 → 45 ∷ digits ≡ decimal n → ⊥
minus_not_first n digits small e =
    let lacks : Lacks 45 (45 ∷ digits) = subst (Lacks 45) (sym e) (Lacks-decimal 45 n (omega arith) (omega arith)) in
    lacks.0 refl

-- the int of digits without a sign
pub unsigned_read : {E : Type 0} (number : ℕ) (digits : List ℕ) (tried : Result ℤ E) → SpellsNumber number digits → OkIff tried (FitsSigned w32 (pos number)) (pos number)
    → MatchOption (result_ok tried) ((n : ℕ) → n < 2147483648 → digits ≡ decimal n → ⊥) (λ z. SpellsInt z digits)
unsigned_read number digits (Ok z) spells h = (subst (FitsSigned w32) (sym h.1) h.0, spells.1 ∙ ap signed_decimal (sym h.1))
unsigned_read number digits (Err e) spells h = λ n lt is.
    let same : n ≡ number = decimal_injective n number (omega (arith, lt)) (omega (arith, spells.0)) (sym is ∙ spells.1) in
    h (omega (arith, ints, lt, same))

-- the int of digits behind a minus
pub minus_read : {E : Type 0} (number : ℕ) (digits : List ℕ) (tried : Result ℤ E) → SpellsNumber number digits → number ≢ 0
    → OkIff tried (FitsSigned w32 (neg_ℤ (pos number))) (neg_ℤ (pos number)) → IsRead (λ z ds. SpellsInt z (45 ∷ ds)) digits (result_ok tried)
minus_read zero digits tried spells ne h = absurd (ne refl)
minus_read (suc number) digits (Ok z) spells ne h = (subst (FitsSigned w32) (sym h.1) h.0, ap (λ (l : List ℕ). 45 ∷ l) spells.1 ∙ ap signed_decimal (sym h.1))
minus_read (suc number) digits (Err e) spells ne h = none
  where
    none : (z : ℤ) → SpellsInt z (45 ∷ digits) → ⊥
    none (pos n) k = minus_not_first n digits (int_mag (pos n) k.0) k.1
    none (negsuc n) k =
        let text : digits ≡ decimal (suc n) = cc in
        let same : suc n ≡ suc number = decimal_injective (suc n) (suc number) (let m : mag (negsuc n) < 2 ^ 63 = int_mag (negsuc n) k.0 in omega (arith, m)) (omega (arith, spells.0)) (sym text ∙ spells.1) in
        let one : n ≡ number = omega (arith, same) in
        h (subst (λ (m : ℕ). FitsSigned w32 (negsuc m)) one k.0)

-- no int is spelled by a minus before no digits, or before a zero
pub minus_none : (digits : List ℕ) → ((number : ℕ) → SpellsNumber number digits → ⊥) → (z : ℤ) → SpellsInt z (45 ∷ digits) → ⊥
minus_none digits none (pos n) k = minus_not_first n digits (int_mag (pos n) k.0) k.1
minus_none digits none (negsuc n) k =
    let text : digits ≡ decimal (suc n) = cc in
    none (suc n) (omega (arith, ints, k.0), text)

pub minus_zero : (number : ℕ) (digits : List ℕ) → number ≡ 0 → SpellsNumber number digits → (z : ℤ) → SpellsInt z (45 ∷ digits) → ⊥
minus_zero number digits is spells (pos n) k = minus_not_first n digits (int_mag (pos n) k.0) k.1
minus_zero number digits is spells (negsuc n) k =
    let text : digits ≡ decimal (suc n) = cc in
    let same : suc n ≡ number = decimal_injective (suc n) number (omega (arith, ints, k.0)) (omega (arith, spells.0)) (sym text ∙ spells.1) in
    omega (arith, same, is)

-- a number and its negative fit 64 bits
as_i64 : (number : ℕ) (z : ℤ) → number < 2 ^ 32 → z ≡ pos number → to_z w64 (of_z w64 z) ≡ pos number
as_i64 number z small e = ap (λ (y : ℤ). to_z w64 (of_z w64 y)) e ∙ to_z-of_z w64 (pos number) (omega (arith, ints, small))

neg_i64 : (number : ℕ) → number < 2 ^ 32 → to_z w64 (of_z w64 (neg_ℤ (pos number))) ≡ neg_ℤ (pos number)
neg_i64 zero small = refl
neg_i64 (suc number) small = to_z-of_z w64 (negsuc number) (omega (arith, ints, small))

pub negated : (number : ℕ) (z : ℤ) → number < 2 ^ 32 → z ≡ pos number → to_z w64 (of_z w64 (pos 0 -ℤ to_z w64 (of_z w64 z))) ≡ neg_ℤ (pos number)
negated number z small e =
    ap (λ (y : ℤ). to_z w64 (of_z w64 y)) (+ℤ_idl (neg_ℤ (to_z w64 (of_z w64 z))) ∙ ap neg_ℤ (as_i64 number z small e)) ∙ neg_i64 number small
