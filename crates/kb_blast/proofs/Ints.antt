-- Words of 32 literals: their lengths, their variables and the ints that they spell.
use Rattle.std.proofs.Common.{◌≡◌, ◌≢◌, ℕ, zero, suc, ◌+◌, ◌*◌, ◌/◌, ◌%◌, ◌^◌, ◌<◌, ◌≤◌, ◌==◌, ℤ, pos, Bool, true, false, not, List, [], ◌∷◌, ◌++◌, length, map, replicate, get_or, refl, sym, ap, ◌∙◌, arith, FitsSigned, w32}
use native.Mathlib.Nat.{pow-suc}
use Rattle.std.proofs.lemmas.List.{length-map, length-replicate}
use Rattle.std.proofs.lemmas.Bool.{eqb-true, eq-eqb, false≢true}
use Rattle.kb_arith.specs.Word.{bits_of, int_of_bits, truth as truth_value}
use Rattle.kb_arith.proofs.Laws.{int_of_bits-bits_of, bits_of-int_of_bits, bits_of-below, bits_of-pos}
use Rattle.kb_chain.specs.Literal.{Literal, literal, is_true}
use Rattle.kb_chain.specs.Cnf.{IsWithin, AllWithin}
use Rattle.kb_chain.proofs.CnfLaws.{IsWithin_more}
use Rattle.kb_circuit.specs.Circuit.{truth, falsity}
use Rattle.kb_circuit.specs.Words.{false_bits, truth_bits}
use Rattle.kb_circuit.specs.Meaning.{bit, number, bits_under, int_under, Agrees}
use Rattle.kb_circuit.proofs.Formulas.{within-more, within-head, within-tail, is_true-agrees, all-more}
use Rattle.kb_circuit.proofs.Computing.{number-32}
use Rattle.kb_circuit.proofs.Arithmetic.{int_truth}
use Rattle.kb_blast.specs.Conditions.{bits, constant_word}

-- a word: 32 literals of the first variables
pub record IsWord (vars : ℕ) (word : List Literal) : Type 0 where
  pub long : length word ≡ 32
  pub within : IsWithin vars word

abbrev pub AreWords : ℕ → List (List Literal) → Type 0
AreWords vars [] = Unit {0}
AreWords vars (word ∷ words) = IsWord vars word × AreWords vars words

pub word-more : (m n : ℕ) (word : List Literal) → m ≤ n → IsWord m word → IsWord n word
word-more m n word le h = record { long = h.long; within = IsWithin_more m n word le h.within }

pub words-more : (m n : ℕ) (words : List (List Literal)) → m ≤ n → AreWords m words → AreWords n words
words-more m n [] le h = tt
words-more m n (word ∷ words) le h = (word-more m n word le h.0, words-more m n words le h.1)

pub words-push : (n : ℕ) (words : List (List Literal)) (word : List Literal) → AreWords n words → IsWord n word → AreWords n (words ++ word ∷ [])
words-push n [] word h k = (k, tt)
words-push n (w ∷ words) word h k = (h.0, words-push n words word h.1 k)

pub words-at : (n : ℕ) (words : List (List Literal)) (i : ℕ) (d : List Literal) → AreWords n words → IsWord n d → IsWord n (get_or words i d)
words-at n [] i d h k = k
words-at n (w ∷ words) zero d h k = h.0
words-at n (w ∷ words) (suc i) d h k = words-at n words i d h.1 k

pub words-within : (n : ℕ) (words : List (List Literal)) → AreWords n words → AllWithin n words
words-within n [] h = refl
words-within n (w ∷ words) h = all-more n w words h.0.within (words-within n words h.1)

-- ---- assignments that agree

bits-agree : (n : ℕ) (v w : ℕ → Bool) (word : List Literal) → Agrees n v w → IsWithin n word → bits_under v word ≡ bits_under w word
bits-agree n v w [] a h = refl
bits-agree n v w (l ∷ word) a h =
    ap (λ b. b ∷ bits_under v word) (is_true-agrees n v w l a (within-head n l word h))
    ∙ ap (λ bs. is_true w l ∷ bs) (bits-agree n v w word a (within-tail n l word h))

pub int-agrees : (n : ℕ) (v w : ℕ → Bool) (word : List Literal) → Agrees n v w → IsWithin n word → int_under v word ≡ int_under w word
unfolding int_under
int-agrees n v w word a h = ap (λ bs. int_of_bits (number bs)) (bits-agree n v w word a h)

-- ---- constants

pub within-copies : (n k : ℕ) (l : Literal) → l.variable ≤ n → IsWithin n (replicate k l)
within-copies n zero l h = refl
within-copies n (suc k) l h = within-more n l (replicate k l) h (within-copies n k l h)

pub word-false : (n : ℕ) → 1 ≤ n → IsWord n false_bits
word-false n h = record { long = length-replicate 32 falsity; within = within-copies n 32 falsity h }

pub word-truth_bits : (n : ℕ) (l : Literal) → 1 ≤ n → l.variable ≤ n → IsWord n (truth_bits l)
word-truth_bits n l h k = record { long = ap suc (length-replicate 31 falsity); within = within-more n l (replicate 31 falsity) k (within-copies n 31 falsity h) }

pub number-copies : (v : ℕ → Bool) (k : ℕ) (l : Literal) → is_true v l ≡ false → number (bits_under v (replicate k l)) ≡ 0
number-copies v zero l e = refl
number-copies v (suc k) l e = let b = ap bit e in let r = number-copies v k l e in omega arith

pub falsity-false : (v : ℕ → Bool) → is_true v truth ≡ true → is_true v falsity ≡ false
falsity-false v e = ap not e

pub int-false : (v : ℕ → Bool) → is_true v truth ≡ true → int_under v false_bits ≡ pos 0
unfolding int_under
int-false v e = ap int_of_bits (number-copies v 32 falsity (falsity-false v e))

pub int-truth_bits : (v : ℕ → Bool) (l : Literal) → is_true v truth ≡ true → int_under v (truth_bits l) ≡ truth_value (is_true v l)
unfolding int_under
int-truth_bits v l e = int_truth (is_true v l) (number (bits_under v (replicate 31 falsity))) (number-copies v 31 falsity (falsity-false v e))

pub length-bits : (width n : ℕ) → length (bits width n) ≡ width
length-bits zero n = refl
length-bits (suc width) n = ap suc (length-bits width (n / 2))

low_bit : (n : ℕ) → bit (n % 2 == 1) + 2 * (n / 2) ≡ n
low_bit n = go (n % 2 == 1) refl
  where
    go : (b : Bool) → (n % 2 == 1) ≡ b → bit b + 2 * (n / 2) ≡ n
    go true e = let h : n % 2 ≡ 1 = eqb-true (n % 2) 1 e in omega arith
    go false e = let h : n % 2 ≢ 1 = λ z. false≢true (sym e ∙ eq-eqb (n % 2) 1 z) in omega arith

pub number-bits : (width n : ℕ) → n < 2 ^ width → number (bits width n) ≡ n
number-bits zero n h = omega arith
number-bits (suc width) n h =
    let p : 2 ^ suc width ≡ 2 ^ width * 2 = pow-suc 2 width in
    let r : number (bits width (n / 2)) ≡ n / 2 = number-bits width (n / 2) (omega arith) in
    ap (λ m. bit (n % 2 == 1) + 2 * m) r ∙ low_bit n

-- the literals true and false of bits
pub bits-constant : (v : ℕ → Bool) (bs : List Bool) → is_true v truth ≡ true → bits_under v (map (literal 1) bs) ≡ bs
bits-constant v [] e = refl
bits-constant v (true ∷ bs) e = ap (λ b. b ∷ bits_under v (map (literal 1) bs)) e ∙ ap (λ x. true ∷ x) (bits-constant v bs e)
bits-constant v (false ∷ bs) e = ap (λ b. b ∷ bits_under v (map (literal 1) bs)) (ap not e) ∙ ap (λ x. false ∷ x) (bits-constant v bs e)

within-constant : (n : ℕ) (bs : List Bool) → 1 ≤ n → IsWithin n (map (literal 1) bs)
within-constant n [] h = refl
within-constant n (b ∷ bs) h = within-more n (literal 1 b) (map (literal 1) bs) h (within-constant n bs h)

pub word-constant : (n : ℕ) (c : ℤ) → 1 ≤ n → IsWord n (constant_word c)
unfolding constant_word
word-constant n c h = record {
  long = length-map (bits 32 (bits_of c)) (literal 1) ∙ length-bits 32 (bits_of c);
  within = within-constant n (bits 32 (bits_of c)) h;
}

pub int-constant : (v : ℕ → Bool) (c : ℤ) → is_true v truth ≡ true → FitsSigned w32 c → int_under v (constant_word c) ≡ c
unfolding constant_word int_under
int-constant v c e f =
    ap (λ bs. int_of_bits (number bs)) (bits-constant v (bits 32 (bits_of c)) e)
    ∙ ap int_of_bits (number-bits 32 (bits_of c) (bits_of-below c f))
    ∙ int_of_bits-bits_of c f

-- ---- the lowest bit of a word that spells 0 or 1

bits_of-truth : (b : Bool) → bits_of (truth_value b) ≡ bit b
bits_of-truth true = bits_of-pos 1
bits_of-truth false = bits_of-pos 0

lowest-of : (a b : Bool) (n : ℕ) → bit a + 2 * n ≡ bit b → a ≡ b
lowest-of true true n e = refl
lowest-of true false n e = absurd (omega arith)
lowest-of false true n e = absurd (omega arith)
lowest-of false false n e = refl

pub lowest-bit : (v : ℕ → Bool) (vars : ℕ) (word : List Literal) (b : Bool) → IsWord vars word → int_under v word ≡ truth_value b → is_true v (get_or word 0 falsity) ≡ b
unfolding int_under
lowest-bit v vars [] b h e = absurd (omega (arith, h.long))
lowest-bit v vars (l ∷ word) b h e =
    let n : number (bits_under v (l ∷ word)) ≡ bit b =
    sym (bits_of-int_of_bits (number (bits_under v (l ∷ word))) (number-32 v (l ∷ word) h.long)) ∙ (ap bits_of e ∙ bits_of-truth b) in
    lowest-of (is_true v l) b (number (bits_under v word)) n
