-- Words cut to their low bits spell the ints of i2b, i2c and i2s.
use Rattle.std.proofs.Common.{◌≡◌, ℕ, zero, suc, ◌+◌, ◌-◌, ◌*◌, ◌%◌, ◌^◌, ◌<◌, ◌≤◌, ℤ, pos, negsuc, Bool, true, false, List, [], ◌∷◌, ◌++◌, length, take, drop, replicate, get_or, refl, sym, ap, subst, ◌∙◌, arith, length-append, length-take}
use native.Mathlib.Nat.{pow-suc}
use mir.Val.{sel}
use Rattle.std.specs.Int.{w8, w16, cast_signed}
use Rattle.std.proofs.lemmas.Bool.{lt-ltb, le-ltb}
use Rattle.std.proofs.lemmas.List.{length-map, length-replicate, map-append, take-map}
use Rattle.std.proofs.Math.ListN.{get_or-map}
use Rattle.kb_arith.specs.Word.{bits_of, int_of_bits, word_byte, word_char, word_short}
use Rattle.kb_arith.proofs.Laws.{bits_of-int_of_bits}
use Rattle.kb_chain.specs.Literal.{Literal, is_true}
use Rattle.kb_chain.specs.Clause.{Satisfies}
use Rattle.kb_chain.specs.Cnf.{Cnf, IsWithin}
use Rattle.kb_circuit.specs.Circuit.{falsity, IsCircuit}
use Rattle.kb_circuit.specs.Meaning.{bit, number, bits_under, int_under}
use Rattle.kb_circuit.proofs.Formulas.{within-more, within-head, within-tail, truth-true}
use Rattle.kb_circuit.proofs.WordLaws.{number-below}
use Rattle.kb_circuit.proofs.Computing.{number-32}
use Rattle.kb_circuit.proofs.Comparing.{low_int, high_int}
use Rattle.kb_circuit.proofs.Shifting.{within-get_or}
use Rattle.kb_blast.specs.Conditions.{narrowed}
use Rattle.kb_blast.proofs.Ints.{IsWord, within-copies, falsity-false}

-- a word made of one word's literals spells a function of its int
pub record Narrows (f : Cnf) (whole out : List Literal) (op : ℤ → ℤ) : Type 0 where
  pub word : IsWord f.vars out
  pub value : (v : ℕ → Bool) → Satisfies v f.clauses → int_under v out ≡ op (int_under v whole)

-- ---- numbers of parts of bits

twice : (p d : ℕ) → (p * 2) * d ≡ 2 * (p * d)
twice p d = grind arith

number-split : (n : ℕ) (bs : List Bool) → n ≤ length bs → number bs ≡ number (take n bs) + 2 ^ n * number (drop n bs)
number-split zero bs h = omega arith
number-split (suc n) [] h = absurd (omega arith)
number-split (suc n) (b ∷ bs) h =
    let r : number bs ≡ number (take n bs) + 2 ^ n * number (drop n bs) = number-split n bs (omega arith) in
    let p : 2 ^ suc n * number (drop n bs) ≡ 2 * (2 ^ n * number (drop n bs)) = ap (λ q. q * number (drop n bs)) (pow-suc 2 n) ∙ twice (2 ^ n) (number (drop n bs)) in
    omega arith

number-append : (xs ys : List Bool) → number (xs ++ ys) ≡ number xs + 2 ^ length xs * number ys
number-append [] ys = omega arith
number-append (b ∷ xs) ys =
    let r : number (xs ++ ys) ≡ number xs + 2 ^ length xs * number ys = number-append xs ys in
    let p : 2 ^ suc (length xs) * number ys ≡ 2 * (2 ^ length xs * number ys) = ap (λ q. q * number ys) (pow-suc 2 (length xs)) ∙ twice (2 ^ length xs) (number ys) in
    omega arith

number-top : (n : ℕ) (bs : List Bool) → n < length bs → number (take (suc n) bs) ≡ number (take n bs) + 2 ^ n * bit (get_or bs n false)
number-top n [] h = absurd (omega arith)
number-top zero (b ∷ bs) h = omega arith
number-top (suc n) (b ∷ bs) h =
    let r : number (take (suc n) bs) ≡ number (take n bs) + 2 ^ n * bit (get_or bs n false) = number-top n bs (omega arith) in
    let c : ℕ = bit (get_or bs n false) in
    let p : 2 ^ suc n * c ≡ 2 * (2 ^ n * c) = ap (λ q. q * c) (pow-suc 2 n) ∙ twice (2 ^ n) c in
    omega arith

number-ones : (k : ℕ) → number (replicate k true) + 1 ≡ 2 ^ k
number-ones zero = refl
number-ones (suc k) = let r = number-ones k in let p = pow-suc 2 k in omega arith

number-zeros : (k : ℕ) → number (replicate k false) ≡ 0
number-zeros zero = refl
number-zeros (suc k) = let r = number-zeros k in omega arith

map-copies : (v : ℕ → Bool) (k : ℕ) (l : Literal) → bits_under v (replicate k l) ≡ replicate k (is_true v l)
map-copies v zero l = refl
map-copies v (suc k) l = ap (λ bs. is_true v l ∷ bs) (map-copies v k l)

-- the number of a narrowed word
narrowed_number : (v : ℕ → Bool) (n k : ℕ) (above : Literal) (word : List Literal) → n ≤ length word
    → number (bits_under v (take n word ++ replicate k above)) ≡ number (take n (bits_under v word)) + 2 ^ n * number (replicate k (is_true v above))
narrowed_number v n k above word h =
    let e : bits_under v (take n word ++ replicate k above) ≡ take n (bits_under v word) ++ replicate k (is_true v above) =
    map-append (is_true v) (take n word) (replicate k above)
    ∙ ap (λ xs. xs ++ bits_under v (replicate k above)) (sym (take-map (is_true v) n word))
    ∙ ap (λ xs. take n (bits_under v word) ++ xs) (map-copies v k above) in
    let l : length (take n (bits_under v word)) ≡ n = omega (arith, length-take n (bits_under v word), length-map word (is_true v)) in
    ap number e ∙ number-append (take n (bits_under v word)) (replicate k (is_true v above))
    ∙ ap (λ m. number (take n (bits_under v word)) + 2 ^ m * number (replicate k (is_true v above))) l

within-take : (m n : ℕ) (word : List Literal) → IsWithin m word → IsWithin m (take n word)
within-take m zero word h = refl
within-take m (suc n) [] h = refl
within-take m (suc n) (l ∷ word) h = within-more m l (take n word) (within-head m l word h) (within-take m n word (within-tail m l word h))

within-append : (m : ℕ) (xs ys : List Literal) → IsWithin m xs → IsWithin m ys → IsWithin m (xs ++ ys)
within-append m [] ys h k = k
within-append m (x ∷ xs) ys h k = within-more m x (xs ++ ys) (within-head m x xs h) (within-append m xs ys (within-tail m x xs h) k)

pub word-narrowed : (vars n : ℕ) (above : Literal) (word : List Literal) → n ≤ 32 → above.variable ≤ vars → IsWord vars word → IsWord vars (narrowed n above word)
word-narrowed vars n above word le h w = record {
  long = omega (arith, w.long, length-append (take n word) (replicate (32 - n) above), length-take n word, length-replicate (32 - n) above);
  within = within-append vars (take n word) (replicate (32 - n) above) (within-take vars n word w.within) (within-copies vars (32 - n) above h);
}

-- ---- the ints

byte_ints : (lo seven x : ℕ) (b : Bool) → seven < 128 → lo ≡ seven + 128 * bit b → x ≡ number (replicate 24 b) → int_of_bits (lo + 256 * x) ≡ cast_signed w8 lo
byte_ints lo seven x true lt e h =
    let ones : x + 1 ≡ 2 ^ 24 = ap (λ y. y + 1) h ∙ number-ones 24 in
    high_int (lo + 256 * x) (omega arith) ∙ ap negsuc (omega arith)
    ∙ sym (ap (λ t. sel t (pos lo) (negsuc (2 ^ 8 - suc lo))) (le-ltb lo (2 ^ 7) (omega arith)))
byte_ints lo seven x false lt e h =
    let zeros : x ≡ 0 = h ∙ number-zeros 24 in
    low_int (lo + 256 * x) (omega arith) ∙ ap pos (omega arith)
    ∙ sym (ap (λ t. sel t (pos lo) (negsuc (2 ^ 8 - suc lo))) (lt-ltb lo (2 ^ 7) (omega arith)))

short_ints : (lo fifteen x : ℕ) (b : Bool) → fifteen < 32768 → lo ≡ fifteen + 32768 * bit b → x ≡ number (replicate 16 b) → int_of_bits (lo + 65536 * x) ≡ cast_signed w16 lo
short_ints lo fifteen x true lt e h =
    let ones : x + 1 ≡ 2 ^ 16 = ap (λ y. y + 1) h ∙ number-ones 16 in
    high_int (lo + 65536 * x) (omega arith) ∙ ap negsuc (omega arith)
    ∙ sym (ap (λ t. sel t (pos lo) (negsuc (2 ^ 16 - suc lo))) (le-ltb lo (2 ^ 15) (omega arith)))
short_ints lo fifteen x false lt e h =
    let zeros : x ≡ 0 = h ∙ number-zeros 16 in
    low_int (lo + 65536 * x) (omega arith) ∙ ap pos (omega arith)
    ∙ sym (ap (λ t. sel t (pos lo) (negsuc (2 ^ 16 - suc lo))) (lt-ltb lo (2 ^ 15) (omega arith)))

char_ints : (lo x : ℕ) → lo < 65536 → x ≡ number (replicate 16 false) → int_of_bits (lo + 65536 * x) ≡ pos lo
char_ints lo x lt h =
    let zeros : x ≡ 0 = h ∙ number-zeros 16 in low_int (lo + 65536 * x) (omega arith) ∙ ap pos (omega arith)

-- the low bits of a word's number
low_bits : (n : ℕ) (bs : List Bool) → n ≤ length bs → number (take n bs) < 2 ^ n
low_bits n bs h = subst (λ m. number (take n bs) < 2 ^ m) (omega (arith, length-take n bs)) (number-below (take n bs))

low_8 : (m : ℕ) (bs : List Bool) → m ≡ number bs → 8 ≤ length bs → m % 2 ^ 8 ≡ number (take 8 bs)
low_8 m bs e h = let s = number-split 8 bs h in let l = low_bits 8 bs h in omega arith

low_16 : (m : ℕ) (bs : List Bool) → m ≡ number bs → 16 ≤ length bs → m % 2 ^ 16 ≡ number (take 16 bs)
low_16 m bs e h = let s = number-split 16 bs h in let l = low_bits 16 bs h in omega arith

pub byte_narrows : (word : List Literal) (f : Cnf) → IsCircuit f → IsWord f.vars word → Narrows f word (narrowed 8 (get_or word 7 falsity) word) word_byte
unfolding word_byte int_under
byte_narrows word f c w = record {
  word = word-narrowed f.vars 8 (get_or word 7 falsity) word (omega arith) (within-get_or f.vars word 7 falsity c.variable w.within) w;
  value = λ v s. value v s;
}
  where
    value : (v : ℕ → Bool) → Satisfies v f.clauses → int_of_bits (number (bits_under v (narrowed 8 (get_or word 7 falsity) word))) ≡ cast_signed w8 (bits_of (int_of_bits (number (bits_under v word))) % 2 ^ 8)
    value v s =
        let bs : List Bool = bits_under v word in
        let long : length bs ≡ 32 = length-map word (is_true v) ∙ w.long in
        let b : is_true v (get_or word 7 falsity) ≡ get_or bs 7 false =
        sym (get_or-map (is_true v) word 7 falsity) ∙ ap (λ d. get_or bs 7 d) (falsity-false v (truth-true v f c s)) in
        ap int_of_bits (narrowed_number v 8 24 (get_or word 7 falsity) word (omega (arith, w.long)))
        ∙ byte_ints (number (take 8 bs)) (number (take 7 bs)) (number (replicate 24 (is_true v (get_or word 7 falsity)))) (get_or bs 7 false)
        (low_bits 7 bs (omega arith)) (number-top 7 bs (omega arith)) (ap (λ x. number (replicate 24 x)) b)
        ∙ ap (cast_signed w8) (sym (low_8 (bits_of (int_of_bits (number bs))) bs (bits_of-int_of_bits (number bs) (number-32 v word w.long)) (omega arith)))

pub short_narrows : (word : List Literal) (f : Cnf) → IsCircuit f → IsWord f.vars word → Narrows f word (narrowed 16 (get_or word 15 falsity) word) word_short
unfolding word_short int_under
short_narrows word f c w = record {
  word = word-narrowed f.vars 16 (get_or word 15 falsity) word (omega arith) (within-get_or f.vars word 15 falsity c.variable w.within) w;
  value = λ v s. value v s;
}
  where
    value : (v : ℕ → Bool) → Satisfies v f.clauses → int_of_bits (number (bits_under v (narrowed 16 (get_or word 15 falsity) word))) ≡ cast_signed w16 (bits_of (int_of_bits (number (bits_under v word))) % 2 ^ 16)
    value v s =
        let bs : List Bool = bits_under v word in
        let long : length bs ≡ 32 = length-map word (is_true v) ∙ w.long in
        let b : is_true v (get_or word 15 falsity) ≡ get_or bs 15 false =
        sym (get_or-map (is_true v) word 15 falsity) ∙ ap (λ d. get_or bs 15 d) (falsity-false v (truth-true v f c s)) in
        ap int_of_bits (narrowed_number v 16 16 (get_or word 15 falsity) word (omega (arith, w.long)))
        ∙ short_ints (number (take 16 bs)) (number (take 15 bs)) (number (replicate 16 (is_true v (get_or word 15 falsity)))) (get_or bs 15 false)
        (low_bits 15 bs (omega arith)) (number-top 15 bs (omega arith)) (ap (λ x. number (replicate 16 x)) b)
        ∙ ap (cast_signed w16) (sym (low_16 (bits_of (int_of_bits (number bs))) bs (bits_of-int_of_bits (number bs) (number-32 v word w.long)) (omega arith)))

pub char_narrows : (word : List Literal) (f : Cnf) → IsCircuit f → IsWord f.vars word → Narrows f word (narrowed 16 falsity word) word_char
unfolding word_char int_under
char_narrows word f c w = record { word = word-narrowed f.vars 16 falsity word (omega arith) c.variable w; value = λ v s. value v s }
  where
    value : (v : ℕ → Bool) → Satisfies v f.clauses → int_of_bits (number (bits_under v (narrowed 16 falsity word))) ≡ pos (bits_of (int_of_bits (number (bits_under v word))) % 2 ^ 16)
    value v s =
        let bs : List Bool = bits_under v word in
        let long : length bs ≡ 32 = length-map word (is_true v) ∙ w.long in
        ap int_of_bits (narrowed_number v 16 16 falsity word (omega (arith, w.long)))
        ∙ char_ints (number (take 16 bs)) (number (replicate 16 (is_true v falsity))) (low_bits 16 bs (omega arith))
        (ap (λ x. number (replicate 16 x)) (falsity-false v (truth-true v f c s)))
        ∙ ap pos (sym (low_16 (bits_of (int_of_bits (number bs))) bs (bits_of-int_of_bits (number bs) (number-32 v word w.long)) (omega arith)))
