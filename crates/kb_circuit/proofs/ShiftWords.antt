-- Five stages shift by the low five bits of the count.
use Rattle.std.proofs.Common.{◌≡◌, ℕ, zero, suc, ◌+◌, ◌-◌, ◌*◌, ◌/◌, ◌%◌, ◌^◌, ◌<◌, ◌≤◌, ℤ, pos, negsuc, Bool, true, false, cond, List, [], ◌∷◌, ◌++◌, length, take, drop, replicate, get_or, refl, sym, ap, subst, ◌∙◌, arith, w32}
use native.Mathlib.Nat.{pow-suc, mul_assoc}
use Rattle.std.proofs.Math.Nat.{div-one, div-le_self}
use Rattle.std.proofs.lemmas.Nat.{shr-shr, pow-add, mul-mod_first}
use Rattle.std.proofs.lemmas.List.{length-map, length-replicate, length-take, length-drop, map-append, take-append-drop}
use Rattle.std.specs.Int.{int_shl, int_shr}
use Rattle.kb_arith.specs.Word.{bits_of, int_of_bits, shift_count, word_shl, word_shr, word_ushr}
use Rattle.kb_arith.proofs.Laws.{bits_of-int_of_bits}
use Rattle.kb_chain.specs.Literal.{Literal, is_true}
use Rattle.kb_chain.specs.Cnf.{Cnf, IsWithin}
use Rattle.kb_circuit.specs.Circuit.{falsity, IsCircuit}
use Rattle.kb_circuit.specs.Shifts.{moved, last_bit, stage, shift_word}
use Rattle.kb_circuit.specs.declared.shift.Shift.{Shift}
use Rattle.kb_circuit.specs.declared.shift.Shift.TheVariants.{Shl, Shr, Ushr}
use Rattle.kb_circuit.specs.Meaning.{bit, number, bits_under, int_under, Computes}
use Rattle.kb_circuit.proofs.Defining.{Defines-then}
use Rattle.kb_circuit.proofs.WordLaws.{number-below}
use Rattle.kb_circuit.proofs.Computing.{number-32, falsity-false, computes_from}
use Rattle.kb_circuit.proofs.Comparing.{low_int, high_int}
use Rattle.kb_circuit.proofs.Shifting.{stage_gives, within-get_or}

-- ---- numbers of moved bits

number-append : (xs ys : List Bool) → number (xs ++ ys) ≡ number xs + 2 ^ length xs * number ys
number-append [] ys = omega arith
number-append (b ∷ xs) ys =
    spread (bit b) (number xs) (2 ^ length xs) (2 ^ suc (length xs)) (number ys) (number (xs ++ ys)) (pow-suc 2 (length xs)) (number-append xs ys)
  where
    spread : (b x p q y n : ℕ) → q ≡ p * 2 → n ≡ x + p * y → b + 2 * n ≡ (b + 2 * x) + q * y
    spread b x p q y n e h = rw (e, h) (grind arith)

pub number-copies : (v : ℕ → Bool) (n : ℕ) (l : Literal) → is_true v l ≡ false → number (bits_under v (replicate n l)) ≡ 0
number-copies v zero l e = refl
number-copies v (suc n) l e = let b = ap bit e in let r = number-copies v n l e in omega arith

number-ones : (v : ℕ → Bool) (n : ℕ) (l : Literal) → is_true v l ≡ true → number (bits_under v (replicate n l)) + 1 ≡ 2 ^ n
number-ones v zero l e = refl
number-ones v (suc n) l e = let b = ap bit e in let r = number-ones v n l e in let p = pow-suc 2 n in omega arith

-- the number of two words, one above the other
pub number-under : (v : ℕ → Bool) (xs ys : List Literal) (n : ℕ) → length xs ≡ n → number (bits_under v (xs ++ ys)) ≡ number (bits_under v xs) + 2 ^ n * number (bits_under v ys)
number-under v xs ys n e =
    ap number (map-append (is_true v) xs ys) ∙ number-append (bits_under v xs) (bits_under v ys)
    ∙ ap (λ k. number (bits_under v xs) + 2 ^ k * number (bits_under v ys)) (length-map xs (is_true v) ∙ e)

-- the places that the stages move by
data Place : Type 0 where
  one_place : Place
  two_places : Place
  four_places : Place
  eight_places : Place
  sixteen_places : Place

abbrev places : Place → ℕ
places one_place = 1
places two_places = 2
places four_places = 4
places eight_places = 8
places sixteen_places = 16

places-below : (k : Place) → places k ≤ 32
places-below one_place = omega arith
places-below two_places = omega arith
places-below four_places = omega arith
places-below eight_places = omega arith
places-below sixteen_places = omega arith

up_number : (k : Place) (t d n z : ℕ) → n ≡ t + 2 ^ (32 - places k) * d → t < 2 ^ (32 - places k) → z ≡ 0 → z + 2 ^ places k * t ≡ (n * 2 ^ places k) % 2 ^ 32
up_number one_place t d n z e lt h = omega arith
up_number two_places t d n z e lt h = omega arith
up_number four_places t d n z e lt h = omega arith
up_number eight_places t d n z e lt h = omega arith
up_number sixteen_places t d n z e lt h = omega arith

down_number : (k : Place) (t d n z : ℕ) → n ≡ t + 2 ^ places k * d → t < 2 ^ places k → z ≡ 0 → d + 2 ^ (32 - places k) * z ≡ n / 2 ^ places k
down_number one_place t d n z e lt h = omega arith
down_number two_places t d n z e lt h = omega arith
down_number four_places t d n z e lt h = omega arith
down_number eight_places t d n z e lt h = omega arith
down_number sixteen_places t d n z e lt h = omega arith

-- of a number with its highest bit the bits that are not set move down
record Kept (k : Place) (n m : ℕ) : Type 0 where
  high : 2 ^ 31 ≤ m
  rest : 2 ^ 32 - suc m ≡ (2 ^ 32 - suc n) / 2 ^ places k

ones_number : (k : Place) (t d n z : ℕ) → n ≡ t + 2 ^ places k * d → t < 2 ^ places k → z + 1 ≡ 2 ^ places k → 2 ^ 31 ≤ n → n < 2 ^ 32 → Kept k n (d + 2 ^ (32 - places k) * z)
ones_number one_place t d n z e lt h hi below = record { high = omega arith; rest = omega arith }
ones_number two_places t d n z e lt h hi below = record { high = omega arith; rest = omega arith }
ones_number four_places t d n z e lt h hi below = record { high = omega arith; rest = omega arith }
ones_number eight_places t d n z e lt h hi below = record { high = omega arith; rest = omega arith }
ones_number sixteen_places t d n z e lt h hi below = record { high = omega arith; rest = omega arith }

-- the bits below and from a place
pub split_number : (v : ℕ → Bool) (ls : List Literal) (n : ℕ) → n ≤ length ls
    → number (bits_under v ls) ≡ number (bits_under v (take n ls)) + 2 ^ n * number (bits_under v (drop n ls))
split_number v ls n le =
    ap (λ x. number (bits_under v x)) (sym (take-append-drop n ls))
    ∙ number-under v (take n ls) (drop n ls) n (omega (arith, length-take n ls))

low_below : (v : ℕ → Bool) (ls : List Literal) (n : ℕ) → n ≤ length ls → number (bits_under v (take n ls)) < 2 ^ n
low_below v ls n le =
    let e : length (take n ls) ≡ n = omega (arith, length-take n ls) in
    subst (λ k. number (bits_under v (take n ls)) < 2 ^ k) (length-map (take n ls) (is_true v) ∙ e) (number-below (bits_under v (take n ls)))

moved_shl : (v : ℕ → Bool) (k : Place) (ls : List Literal) → length ls ≡ 32 → is_true v falsity ≡ false
    → number (bits_under v (moved Shl (places k) ls)) ≡ (number (bits_under v ls) * 2 ^ places k) % 2 ^ 32
moved_shl v k ls l f =
    let n : ℕ = places k in
    let le : n ≤ 32 = places-below k in
    let w : length ls - n ≡ 32 - n = omega arith in
    ap (λ m. number (bits_under v (replicate n falsity ++ take m ls))) w
    ∙ (number-under v (replicate n falsity) (take (32 - n) ls) n (length-replicate n falsity)
    ∙ up_number k (number (bits_under v (take (32 - n) ls))) (number (bits_under v (drop (32 - n) ls))) (number (bits_under v ls)) (number (bits_under v (replicate n falsity)))
    (split_number v ls (32 - n) (omega arith)) (low_below v ls (32 - n) (omega arith)) (number-copies v n falsity f))

moved_ushr : (v : ℕ → Bool) (k : Place) (ls : List Literal) → length ls ≡ 32 → is_true v falsity ≡ false
    → number (bits_under v (moved Ushr (places k) ls)) ≡ number (bits_under v ls) / 2 ^ places k
moved_ushr v k ls l f =
    let n : ℕ = places k in
    let le : n ≤ 32 = places-below k in
    number-under v (drop n ls) (replicate n falsity) (32 - n) (omega (arith, length-drop n ls))
    ∙ down_number k (number (bits_under v (take n ls))) (number (bits_under v (drop n ls))) (number (bits_under v ls)) (number (bits_under v (replicate n falsity)))
    (split_number v ls n (omega arith)) (low_below v ls n (omega arith)) (number-copies v n falsity f)

-- the highest bit tells which half a number is in
pub halves : (v : ℕ → Bool) (ls : List Literal) (n : ℕ) (d : Literal) → length ls ≡ suc n
    → (is_true v (get_or ls n d) ≡ false → number (bits_under v ls) < 2 ^ n) × (is_true v (get_or ls n d) ≡ true → 2 ^ n ≤ number (bits_under v ls))
halves v [] n d e = absurd (omega arith)
halves v (l ∷ []) zero d e = (λ h. let b = ap bit h in omega arith, λ h. let b = ap bit h in omega arith)
halves v (l ∷ []) (suc n) d e = absurd (omega arith)
halves v (l ∷ m ∷ ls) zero d e = absurd (omega arith)
halves v (l ∷ m ∷ ls) (suc n) d e =
    let r = halves v (m ∷ ls) n d (omega arith) in
    let p = pow-suc 2 n in
    (λ h. below (is_true v l) (number (bits_under v (m ∷ ls))) (2 ^ n) (2 ^ suc n) p (r.0 h), λ h. let a = r.1 h in omega arith)
  where
    below : (b : Bool) (a p q : ℕ) → q ≡ p * 2 → a < p → bit b + 2 * a < q
    below true a p q e lt = omega arith
    below false a p q e lt = omega arith

moved_shr : (v : ℕ → Bool) (k : Place) (ls : List Literal) → length ls ≡ 32 → int_of_bits (number (bits_under v (moved Shr (places k) ls))) ≡ int_shr (int_of_bits (number (bits_under v ls))) (places k)
moved_shr v k ls l = go (is_true v (last_bit falsity ls)) refl
  where
    top : (b : Bool) → is_true v (last_bit falsity ls) ≡ b → is_true v (get_or ls 31 falsity) ≡ b
    top b e = let m : length ls - 1 ≡ 31 = omega arith in ap (λ i. is_true v (get_or ls i falsity)) (sym m) ∙ e

    parts : number (bits_under v (moved Shr (places k) ls))
        ≡ number (bits_under v (drop (places k) ls)) + 2 ^ (32 - places k) * number (bits_under v (replicate (places k) (last_bit falsity ls)))
    parts = number-under v (drop (places k) ls) (replicate (places k) (last_bit falsity ls)) (32 - places k) (omega (arith, length-drop (places k) ls))

    go : (b : Bool) → is_true v (last_bit falsity ls) ≡ b → int_of_bits (number (bits_under v (moved Shr (places k) ls))) ≡ int_shr (int_of_bits (number (bits_under v ls))) (places k)
    go false e =
        let n : ℕ = places k in
        let le : n ≤ 32 = places-below k in
        let low : number (bits_under v ls) < 2 ^ 31 = (halves v ls 31 falsity l).0 (top false e) in
        let down : number (bits_under v (moved Shr n ls)) ≡ number (bits_under v ls) / 2 ^ n = parts ∙ down_number k (number (bits_under v (take n ls))) (number (bits_under v (drop n ls))) (number (bits_under v ls))
        (number (bits_under v (replicate n (last_bit falsity ls)))) (split_number v ls n (omega arith)) (low_below v ls n (omega arith)) (number-copies v n (last_bit falsity ls) e) in
        ap int_of_bits down
        ∙ (low_int (number (bits_under v ls) / 2 ^ n) (quotient_low k (number (bits_under v ls)) low) ∙ sym (ap (λ x. int_shr x n) (low_int (number (bits_under v ls)) low)))
      where
        quotient_low : (k : Place) (a : ℕ) → a < 2 ^ 31 → a / 2 ^ places k < 2 ^ 31
        quotient_low one_place a lt = omega arith
        quotient_low two_places a lt = omega arith
        quotient_low four_places a lt = omega arith
        quotient_low eight_places a lt = omega arith
        quotient_low sixteen_places a lt = omega arith
    go true e =
        let n : ℕ = places k in
        let le : n ≤ 32 = places-below k in
        let high : 2 ^ 31 ≤ number (bits_under v ls) = (halves v ls 31 falsity l).1 (top true e) in
        let kept : Kept k (number (bits_under v ls)) (number (bits_under v (drop n ls)) + 2 ^ (32 - n) * number (bits_under v (replicate n (last_bit falsity ls)))) =
        ones_number k (number (bits_under v (take n ls))) (number (bits_under v (drop n ls))) (number (bits_under v ls))
        (number (bits_under v (replicate n (last_bit falsity ls)))) (split_number v ls n (omega arith)) (low_below v ls n (omega arith)) (number-ones v n (last_bit falsity ls) e) high (number-32 v ls l) in
        ap int_of_bits parts
        ∙ (high_int _ kept.high ∙ (ap negsuc kept.rest ∙ sym (ap (λ x. int_shr x n) (high_int (number (bits_under v ls)) high))))

-- ---- shifts one after the other

record Adds (shifted : ℤ → ℕ → ℤ) : Type 0 where
  none : (n : ℕ) → n < 2 ^ 32 → shifted (int_of_bits n) 0 ≡ int_of_bits n
  twice : (n i j : ℕ) → n < 2 ^ 32 → shifted (shifted (int_of_bits n) i) j ≡ shifted (int_of_bits n) (i + j)

shl_adds : Adds (int_shl w32)
shl_adds = record {
  none = λ n lt. ap int_of_bits (ap (λ m. (m * 1) % 2 ^ 32) (bits_of-int_of_bits n lt) ∙ omega arith);
  twice = λ n i j lt. ap int_of_bits (ap (λ m. (m * 2 ^ j) % 2 ^ 32) (bits_of-int_of_bits ((bits_of (int_of_bits n) * 2 ^ i) % 2 ^ 32) (omega arith))
      ∙ (mul-mod_first (bits_of (int_of_bits n) * 2 ^ i) (2 ^ j) (2 ^ 32)
      ∙ ap (λ m. m % 2 ^ 32) (mul_assoc (bits_of (int_of_bits n)) (2 ^ i) (2 ^ j) ∙ ap (λ m. bits_of (int_of_bits n) * m) (sym (pow-add 2 i j)))));
}

shr_z_twice : (a : ℤ) (i j : ℕ) → int_shr (int_shr a i) j ≡ int_shr a (i + j)
shr_z_twice (pos n) i j = ap pos (shr-shr n i j)
shr_z_twice (negsuc n) i j = ap negsuc (shr-shr n i j)

shr_z_none : (a : ℤ) → int_shr a 0 ≡ a
shr_z_none (pos n) = ap pos (div-one n)
shr_z_none (negsuc n) = ap negsuc (div-one n)

shr_adds : Adds int_shr
shr_adds = record { none = λ n lt. shr_z_none (int_of_bits n); twice = λ n i j lt. shr_z_twice (int_of_bits n) i j }

abbrev ushr_by : ℤ → ℕ → ℤ
ushr_by a k = int_of_bits (bits_of a / 2 ^ k)

ushr_adds : Adds ushr_by
ushr_adds = record {
  none = λ n lt. ap int_of_bits (div-one (bits_of (int_of_bits n)) ∙ bits_of-int_of_bits n lt);
  twice = λ n i j lt.
      let small : bits_of (int_of_bits n) / 2 ^ i < 2 ^ 32 = omega (arith, div-le_self (bits_of (int_of_bits n)) (2 ^ i), bits_of-int_of_bits n lt) in
      ap int_of_bits (ap (λ m. m / 2 ^ j) (bits_of-int_of_bits (bits_of (int_of_bits n) / 2 ^ i) small) ∙ shr-shr (bits_of (int_of_bits n)) i j);
}

-- ---- the five stages

-- moved words are shifted ints
Moves : Shift → (ℤ → ℕ → ℤ) → Type 0
Moves shift shifted = (v : ℕ → Bool) (k : Place) (ls : List Literal) → length ls ≡ 32 → is_true v falsity ≡ false
    → int_of_bits (number (bits_under v (moved shift (places k) ls))) ≡ shifted (int_of_bits (number (bits_under v ls))) (places k)

shl_moves : Moves Shl (int_shl w32)
unfolding Moves
shl_moves v k ls l f = ap int_of_bits (moved_shl v k ls l f ∙ ap (λ m. (m * 2 ^ places k) % 2 ^ 32) (sym (bits_of-int_of_bits (number (bits_under v ls)) (number-32 v ls l))))

shr_moves : Moves Shr int_shr
unfolding Moves
shr_moves v k ls l f = moved_shr v k ls l

ushr_moves : Moves Ushr ushr_by
unfolding Moves
ushr_moves v k ls l f = ap int_of_bits (moved_ushr v k ls l f ∙ ap (λ m. m / 2 ^ places k) (sym (bits_of-int_of_bits (number (bits_under v ls)) (number-32 v ls l))))

by_bit : Place → Bool → ℕ
by_bit k b = cond b (places k) 0

stage_shifts : (shift : Shift) (shifted : ℤ → ℕ → ℤ) → Moves shift shifted → Adds shifted → (v : ℕ → Bool) (k : Place) (b : Bool) (ls out : List Literal) → length ls ≡ 32 → is_true v falsity ≡ false
    → bits_under v out ≡ cond b (bits_under v (moved shift (places k) ls)) (bits_under v ls)
    → int_of_bits (number (bits_under v out)) ≡ shifted (int_of_bits (number (bits_under v ls))) (by_bit k b)
unfolding Moves by_bit
stage_shifts shift shifted moves adds v k true ls out l f e = ap (λ bs. int_of_bits (number bs)) e ∙ moves v k ls l f
stage_shifts shift shifted moves adds v k false ls out l f e = ap (λ bs. int_of_bits (number bs)) e ∙ sym (adds.none (number (bits_under v ls)) (number-32 v ls l))

five : (shifted : ℤ → ℕ → ℤ) → Adds shifted → (n : ℕ) → n < 2 ^ 32 → (a b c d e : ℕ) (x y z w u : ℤ) → x ≡ shifted (int_of_bits n) a → y ≡ shifted x b → z ≡ shifted y c → w ≡ shifted z d → u ≡ shifted w e
    → u ≡ shifted (int_of_bits n) (a + b + c + d + e)
five shifted adds n lt a b c d e x y z w u f g h i j =
    let two : y ≡ shifted (int_of_bits n) (a + b) = g ∙ (ap (λ m. shifted m b) f ∙ adds.twice n a b lt) in
    let three : z ≡ shifted (int_of_bits n) (a + b + c) = h ∙ (ap (λ m. shifted m c) two ∙ adds.twice n (a + b) c lt) in
    let four : w ≡ shifted (int_of_bits n) (a + b + c + d) = i ∙ (ap (λ m. shifted m d) three ∙ adds.twice n (a + b + c) d lt) in
    j ∙ (ap (λ m. shifted m e) four ∙ adds.twice n (a + b + c + d) e lt)

-- the low five bits of a number
low_five : (a b c d e : Bool) (r : ℕ) → by_bit one_place a + by_bit two_places b + by_bit four_places c + by_bit eight_places d + by_bit sixteen_places e
    ≡ (bit a + 2 * (bit b + 2 * (bit c + 2 * (bit d + 2 * (bit e + 2 * r))))) % 32
unfolding by_bit
low_five a b c d e r = parts a b c d e (bit a) (bit b) (bit c) (bit d) (bit e) refl refl refl refl refl
  where
    one : (k : Place) (b : Bool) → cond b (places k) 0 ≡ places k * bit b
    one one_place true = refl
    one one_place false = refl
    one two_places true = refl
    one two_places false = refl
    one four_places true = refl
    one four_places false = refl
    one eight_places true = refl
    one eight_places false = refl
    one sixteen_places true = refl
    one sixteen_places false = refl

    low : (b : Bool) → bit b ≤ 1
    low true = omega arith
    low false = omega arith

    parts : (a b c d e : Bool) (x y z w u : ℕ) → bit a ≡ x → bit b ≡ y → bit c ≡ z → bit d ≡ w → bit e ≡ u
        → cond a 1 0 + cond b 2 0 + cond c 4 0 + cond d 8 0 + cond e 16 0 ≡ (x + 2 * (y + 2 * (z + 2 * (w + 2 * (u + 2 * r))))) % 32
    parts a b c d e x y z w u f g h i j =
        let p = one one_place a in let q = one two_places b in let s = one four_places c in let t = one eight_places d in let v = one sixteen_places e in
        let la = low a in let lb = low b in let lc = low c in let ld = low d in let le = low e in
        omega arith

counted : (v : ℕ → Bool) (count : List Literal) → length count ≡ 32
    → by_bit one_place (is_true v (get_or count 0 falsity)) + by_bit two_places (is_true v (get_or count 1 falsity)) + by_bit four_places (is_true v (get_or count 2 falsity))
    + by_bit eight_places (is_true v (get_or count 3 falsity)) + by_bit sixteen_places (is_true v (get_or count 4 falsity)) ≡ number (bits_under v count) % 32
counted v [] e = absurd (omega arith)
counted v (a ∷ []) e = absurd (omega arith)
counted v (a ∷ b ∷ []) e = absurd (omega arith)
counted v (a ∷ b ∷ c ∷ []) e = absurd (omega arith)
counted v (a ∷ b ∷ c ∷ d ∷ []) e = absurd (omega arith)
counted v (a ∷ b ∷ c ∷ d ∷ l ∷ rest) e = low_five (is_true v a) (is_true v b) (is_true v c) (is_true v d) (is_true v l) (number (bits_under v rest))

shift_computes : (shift : Shift) (shifted : ℤ → ℕ → ℤ) → Moves shift shifted → Adds shifted → (left right : List Literal) (f : Cnf) → IsCircuit f → length left ≡ 32 → length right ≡ 32
    → IsWithin f.vars left → IsWithin f.vars right
    → Computes (λ a b. shifted a (shift_count b)) left right f (shift_word shift left right f).0 (shift_word shift left right f).1
unfolding shift_word int_under
shift_computes shift shifted moves adds left right f circuit l r h k =
    let low : 1 ≤ f.vars = circuit.variable in
    let s0 : Literal = get_or right 0 falsity in let s1 : Literal = get_or right 1 falsity in let s2 : Literal = get_or right 2 falsity in
    let s3 : Literal = get_or right 3 falsity in let s4 : Literal = get_or right 4 falsity in
    let w0 : s0.variable ≤ f.vars = within-get_or f.vars right 0 falsity low k in
    let w1 : s1.variable ≤ f.vars = within-get_or f.vars right 1 falsity low k in
    let w2 : s2.variable ≤ f.vars = within-get_or f.vars right 2 falsity low k in
    let w3 : s3.variable ≤ f.vars = within-get_or f.vars right 3 falsity low k in
    let w4 : s4.variable ≤ f.vars = within-get_or f.vars right 4 falsity low k in
    let a = stage shift 1 s0 left f in
    let ga = stage_gives shift 1 s0 left f low (omega arith) w0 h in
    let ua : f.vars ≤ a.1.vars = ga.defines.grows in
    let la : length a.0 ≡ 32 = ga.long ∙ l in
    let b = stage shift 2 s1 a.0 a.1 in
    let gb = stage_gives shift 2 s1 a.0 a.1 (omega arith) (omega arith) (omega arith) ga.within in
    let ub : a.1.vars ≤ b.1.vars = gb.defines.grows in
    let lb : length b.0 ≡ 32 = gb.long ∙ la in
    let c = stage shift 4 s2 b.0 b.1 in
    let gc = stage_gives shift 4 s2 b.0 b.1 (omega arith) (omega arith) (omega arith) gb.within in
    let uc : b.1.vars ≤ c.1.vars = gc.defines.grows in
    let lc : length c.0 ≡ 32 = gc.long ∙ lb in
    let d = stage shift 8 s3 c.0 c.1 in
    let gd = stage_gives shift 8 s3 c.0 c.1 (omega arith) (omega arith) (omega arith) gc.within in
    let ud : c.1.vars ≤ d.1.vars = gd.defines.grows in
    let ld : length d.0 ≡ 32 = gd.long ∙ lc in
    let e = stage shift 16 s4 d.0 d.1 in
    let ge = stage_gives shift 16 s4 d.0 d.1 (omega arith) (omega arith) (omega arith) gd.within in
    computes_from (λ x y. shifted x (shift_count y)) left right f e circuit ge.within
    (Defines-then ga.defines (Defines-then gb.defines (Defines-then gc.defines (Defines-then gd.defines ge.defines))))
    (λ v sat m.
    let z : is_true v falsity ≡ false = falsity-false v f circuit sat in
    five shifted adds (number (bits_under v left)) (number-32 v left l) _ _ _ _ _ _ _ _ _ _
    (stage_shifts shift shifted moves adds v one_place (is_true v s0) left a.0 l z m.0)
    (stage_shifts shift shifted moves adds v two_places (is_true v s1) a.0 b.0 la z m.1.0)
    (stage_shifts shift shifted moves adds v four_places (is_true v s2) b.0 c.0 lb z m.1.1.0)
    (stage_shifts shift shifted moves adds v eight_places (is_true v s3) c.0 d.0 lc z m.1.1.1.0)
    (stage_shifts shift shifted moves adds v sixteen_places (is_true v s4) d.0 e.0 ld z m.1.1.1.1)
    ∙ ap (shifted (int_of_bits (number (bits_under v left))))
    (counted v right r ∙ ap (λ n. n % 32) (sym (bits_of-int_of_bits (number (bits_under v right)) (number-32 v right r)))))

pub shl_computes : (left right : List Literal) (f : Cnf) → IsCircuit f → length left ≡ 32 → length right ≡ 32 → IsWithin f.vars left → IsWithin f.vars right
    → Computes word_shl left right f (shift_word Shl left right f).0 (shift_word Shl left right f).1
unfolding word_shl
shl_computes left right f circuit l r h k = shift_computes Shl (int_shl w32) shl_moves shl_adds left right f circuit l r h k

pub shr_computes : (left right : List Literal) (f : Cnf) → IsCircuit f → length left ≡ 32 → length right ≡ 32 → IsWithin f.vars left → IsWithin f.vars right
    → Computes word_shr left right f (shift_word Shr left right f).0 (shift_word Shr left right f).1
unfolding word_shr
shr_computes left right f circuit l r h k = shift_computes Shr int_shr shr_moves shr_adds left right f circuit l r h k

pub ushr_computes : (left right : List Literal) (f : Cnf) → IsCircuit f → length left ≡ 32 → length right ≡ 32 → IsWithin f.vars left → IsWithin f.vars right
    → Computes word_ushr left right f (shift_word Ushr left right f).0 (shift_word Ushr left right f).1
unfolding word_ushr
ushr_computes left right f circuit l r h k = shift_computes Ushr ushr_by ushr_moves ushr_adds left right f circuit l r h k
