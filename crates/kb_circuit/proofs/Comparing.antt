-- Comparisons with signs, and equality.
use Rattle.std.proofs.Common.{◌≡◌, ◌⊎◌, inl, inr, ℕ, zero, suc, ◌+◌, ◌-◌, ◌*◌, ◌^◌, ◌<◌, ◌≤◌, pos, negsuc, Bool, true, false, not, ◌&&◌, cond, nat_lt, List, [], ◌∷◌, length, refl, sym, ap, ◌∙◌, arith}
use native.Mathlib.Nat.{pow-suc}
use mir.Val.{sel}
use Rattle.std.proofs.lemmas.Bool.{ltb-true, lt-ltb, le-ltb, false≢true, and_parts}
use Rattle.std.proofs.lemmas.Bool.Decides.{Decides-int_eq}
use Rattle.std.specs.Prelude.{int_lt}
use Rattle.std.specs.Ordering.{int_eq}
use Rattle.kb_arith.specs.Word.{bits_of, int_of_bits, truth as truth_value, word_lt, word_eq}
use Rattle.std.proofs.lemmas.List.{length-map}
use Rattle.kb_arith.proofs.Laws.{bits_of-int_of_bits}
use Rattle.kb_chain.specs.Literal.{Literal, negated, is_true}
use Rattle.kb_chain.specs.Cnf.{Cnf, IsWithin}
use Rattle.kb_chain.proofs.CnfLaws.{IsWithin_more}
use Rattle.kb_circuit.specs.Circuit.{IsCircuit}
use Rattle.kb_circuit.specs.Gates.{xor_gate, and_gate}
use Rattle.kb_circuit.specs.Words.{sign_negated, below, lt_word, equal, equal_from, eq_word}
use Rattle.kb_circuit.specs.Meaning.{bit, number, bits_under, int_under, Computes}
use Rattle.kb_circuit.proofs.Formulas.{within-head, within-tail}
use Rattle.kb_circuit.proofs.Defining.{Defines-none, Defines-then, Defines-map}
use Rattle.kb_circuit.proofs.GateLaws.{is_true-negated, Gives, xor_gives, and_gives}
use Rattle.kb_circuit.proofs.Loops.{within-sign_negated}
use Rattle.kb_circuit.proofs.Computing.{number-32, GivesBit, below_gives, truth_computes}

-- ---- the sign turned

-- b is a with its bit n turned, the highest
abbrev Turned : ℕ → ℕ → ℕ → Type 0
Turned p a b = ((a + p ≡ b) × (a < p)) ⊎ ((b + p ≡ a) × (b < p))

turned_bit : (b nb : Bool) → nb ≡ not b → Turned 1 (bit b + 2 * 0) (bit nb + 2 * 0)
turned_bit true nb e = rw e (inr (refl, omega arith))
turned_bit false nb e = rw e (inl (refl, omega arith))

turned_next : (p q b a c : ℕ) → b ≤ 1 → q ≡ p * 2 → Turned p a c → Turned q (b + 2 * a) (b + 2 * c)
turned_next p q b a c le e (inl h) = let x : a + p ≡ c = h.0 in let y : a < p = h.1 in inl (omega arith, omega arith)
turned_next p q b a c le e (inr h) = let x : c + p ≡ a = h.0 in let y : c < p = h.1 in inr (omega arith, omega arith)

bit-le : (b : Bool) → bit b ≤ 1
bit-le true = omega arith
bit-le false = omega arith

sign_turned : (v : ℕ → Bool) (ls : List Literal) (n : ℕ) → length ls ≡ suc n → Turned (2 ^ n) (number (bits_under v ls)) (number (bits_under v (sign_negated ls)))
sign_turned v [] n e = absurd (omega arith)
sign_turned v (l ∷ []) zero e = turned_bit (is_true v l) (is_true v (negated l)) (is_true-negated v l)
sign_turned v (l ∷ []) (suc n) e = absurd (omega arith)
sign_turned v (l ∷ m ∷ ls) zero e = absurd (omega arith)
sign_turned v (l ∷ m ∷ ls) (suc n) e =
    turned_next (2 ^ n) (2 ^ suc n) (bit (is_true v l)) (number (bits_under v (m ∷ ls))) (number (bits_under v (sign_negated (m ∷ ls)))) (bit-le (is_true v l)) (pow-suc 2 n)
    (sign_turned v (m ∷ ls) n (omega arith))

length-sign_negated : (ls : List Literal) → length (sign_negated ls) ≡ length ls
length-sign_negated [] = refl
length-sign_negated (l ∷ []) = refl
length-sign_negated (l ∷ m ∷ ls) = ap suc (length-sign_negated (m ∷ ls))

pub low_int : (n : ℕ) → n < 2 ^ 31 → int_of_bits n ≡ pos n
low_int n lt = ap (λ t. sel t (pos n) (negsuc (2 ^ 32 - suc n))) (lt-ltb n (2 ^ 31) lt)

pub high_int : (n : ℕ) → 2 ^ 31 ≤ n → int_of_bits n ≡ negsuc (2 ^ 32 - suc n)
high_int n le = ap (λ t. sel t (pos n) (negsuc (2 ^ 32 - suc n))) (le-ltb n (2 ^ 31) le)

same_test : (s t : Bool) → (s ≡ true → t ≡ true) → (t ≡ true → s ≡ true) → s ≡ t
same_test true t f g = sym (f refl)
same_test false true f g = g refl
same_test false false f g = refl

signed_less : (a b c d : ℕ) → a < 2 ^ 32 → b < 2 ^ 32 → Turned (2 ^ 31) a c → Turned (2 ^ 31) b d → nat_lt c d ≡ int_lt (int_of_bits a) (int_of_bits b)
signed_less a b c d at bt (inl h) (inl k) =
    let e : a + 2 ^ 31 ≡ c = h.0 in let f : b + 2 ^ 31 ≡ d = k.0 in
    rw (low_int a h.1, low_int b k.1) (same_test (nat_lt c d) (nat_lt a b)
    (λ t. let l : c < d = ltb-true c d t in lt-ltb a b (omega arith)) (λ t. let l : a < b = ltb-true a b t in lt-ltb c d (omega arith)))
signed_less a b c d at bt (inl h) (inr k) =
    let e : a + 2 ^ 31 ≡ c = h.0 in let f : d + 2 ^ 31 ≡ b = k.0 in let i : d < 2 ^ 31 = k.1 in
    let le : 2 ^ 31 ≤ b = omega arith in
    rw (low_int a h.1, high_int b le) (le-ltb c d (omega arith))
signed_less a b c d at bt (inr h) (inl k) =
    let e : c + 2 ^ 31 ≡ a = h.0 in let f : b + 2 ^ 31 ≡ d = k.0 in let i : c < 2 ^ 31 = h.1 in
    let le : 2 ^ 31 ≤ a = omega arith in
    rw (high_int a le, low_int b k.1) (lt-ltb c d (omega arith))
signed_less a b c d at bt (inr h) (inr k) =
    let e : c + 2 ^ 31 ≡ a = h.0 in let f : d + 2 ^ 31 ≡ b = k.0 in
    let la : 2 ^ 31 ≤ a = omega arith in let lb : 2 ^ 31 ≤ b = omega arith in
    rw (high_int a la, high_int b lb) (same_test (nat_lt c d) (nat_lt (2 ^ 32 - suc b) (2 ^ 32 - suc a))
    (λ t. let l : c < d = ltb-true c d t in lt-ltb (2 ^ 32 - suc b) (2 ^ 32 - suc a) (omega arith))
    (λ t. let l : 2 ^ 32 - suc b < 2 ^ 32 - suc a = ltb-true (2 ^ 32 - suc b) (2 ^ 32 - suc a) t in lt-ltb c d (omega arith)))

pub lt_computes : (left right : List Literal) (f : Cnf) → IsCircuit f → length left ≡ 32 → length right ≡ 32 → IsWithin f.vars left → IsWithin f.vars right
    → Computes word_lt left right f (lt_word left right f).0 (lt_word left right f).1
unfolding lt_word int_under word_lt
lt_computes left right f circuit l r h k =
    truth_computes word_lt left right f (below (sign_negated left) (sign_negated right) f)
    (λ v. nat_lt (number (bits_under v (sign_negated left))) (number (bits_under v (sign_negated right)))) circuit
    (below_gives (sign_negated left) (sign_negated right) f circuit (length-sign_negated left ∙ l) (length-sign_negated right ∙ r)
    (within-sign_negated f.vars left h) (within-sign_negated f.vars right k))
    (λ v. ap truth_value (signed_less (number (bits_under v left)) (number (bits_under v right)) _ _ (number-32 v left l) (number-32 v right r)
    (sign_turned v left 31 l) (sign_turned v right 31 r)))

-- ---- equality

same_bits : List Bool → List Bool → Bool
same_bits [] _ = true
same_bits (a ∷ left) [] = true
same_bits (a ∷ left) (b ∷ right) = not (cond a (not b) b) && same_bits left right

chained : (e b d m o t : Bool) → d ≡ m → b ≡ (e && not d) → o ≡ (b && t) → o ≡ (e && (not m && t))
chained e b d m o t h k j = j ∙ rw (k, h) (go e m t)
  where
    go : (e m t : Bool) → ((e && not m) && t) ≡ (e && (not m && t))
    go true m t = refl
    go false m t = refl

equal_from_gives : (e : Literal) (left right : List Literal) (f : Cnf) → length left ≡ length right → e.variable ≤ f.vars → IsWithin f.vars left → IsWithin f.vars right
    → GivesBit f (equal_from e left right f) (λ v. is_true v e && same_bits (bits_under v left) (bits_under v right))
unfolding equal_from same_bits
equal_from_gives e [] right f l i h k = record { within = i; grows = omega arith; defines = Defines-map _ (Defines-none f) (λ v m. and_true (is_true v e)) }
  where
    and_true : (b : Bool) → b ≡ (b && true)
    and_true true = refl
    and_true false = refl
equal_from_gives e (a ∷ left) [] f l i h k = absurd (omega arith)
equal_from_gives e (a ∷ left) (b ∷ right) f l i h k =
    let x = xor_gate a b f in
    let dx : Gives f x (λ v. cond (is_true v a) (not (is_true v b)) (is_true v b)) = xor_gives a b f (within-head f.vars a left h) (within-head f.vars b right k) in
    let gx : f.vars ≤ x.1.vars = dx.defines.grows in
    let wx : x.0.variable ≤ x.1.vars = dx.within in
    let y = and_gate e (negated x.0) x.1 in
    let dy : Gives x.1 y (λ v. is_true v e && is_true v (negated x.0)) = and_gives e (negated x.0) x.1 (omega arith) wx in
    let gy : x.1.vars ≤ y.1.vars = dy.defines.grows in
    let up : f.vars ≤ y.1.vars = omega arith in
    let r = equal_from_gives y.0 left right y.1 (omega arith) dy.within (IsWithin_more f.vars y.1.vars left up (within-tail f.vars a left h)) (IsWithin_more f.vars y.1.vars right up (within-tail f.vars b right k)) in
    let gr : y.1.vars ≤ (equal_from y.0 left right y.1).1.vars = r.grows in
    record {
      within = r.within;
      grows = omega arith;
      defines = Defines-map _ (Defines-then dx.defines (Defines-then dy.defines r.defines)) (λ v m.
          chained (is_true v e) (is_true v y.0) (is_true v x.0) (cond (is_true v a) (not (is_true v b)) (is_true v b)) (is_true v (equal_from y.0 left right y.1).0)
          (same_bits (bits_under v left) (bits_under v right)) m.0 (m.1.0 ∙ ap (λ z. is_true v e && z) (is_true-negated v x.0)) m.1.1);
    }

started : (d n m o t : Bool) → d ≡ m → n ≡ not d → o ≡ (n && t) → o ≡ (not m && t)
started d n m o t h k j = j ∙ ap (λ z. z && t) (k ∙ ap not h)

equal_gives : (left right : List Literal) (f : Cnf) → length left ≡ suc 31 → length left ≡ length right → IsWithin f.vars left → IsWithin f.vars right
    → GivesBit f (equal left right f) (λ v. same_bits (bits_under v left) (bits_under v right))
unfolding equal same_bits
equal_gives [] right f n l h k = absurd (omega arith)
equal_gives (a ∷ left) [] f n l h k = absurd (omega arith)
equal_gives (a ∷ left) (b ∷ right) f n l h k =
    let x = xor_gate a b f in
    let dx : Gives f x (λ v. cond (is_true v a) (not (is_true v b)) (is_true v b)) = xor_gives a b f (within-head f.vars a left h) (within-head f.vars b right k) in
    let up : f.vars ≤ x.1.vars = dx.defines.grows in
    let r = equal_from_gives (negated x.0) left right x.1 (omega arith) dx.within (IsWithin_more f.vars x.1.vars left up (within-tail f.vars a left h)) (IsWithin_more f.vars x.1.vars right up (within-tail f.vars b right k)) in
    let gr : x.1.vars ≤ (equal_from (negated x.0) left right x.1).1.vars = r.grows in
    record {
      within = r.within;
      grows = omega arith;
      defines = Defines-map _ (Defines-then dx.defines r.defines) (λ v m.
          started (is_true v x.0) (is_true v (negated x.0)) (cond (is_true v a) (not (is_true v b)) (is_true v b)) (is_true v (equal_from (negated x.0) left right x.1).0)
          (same_bits (bits_under v left) (bits_under v right)) m.0 (is_true-negated v x.0) m.1);
    }

-- equal bits are equal numbers
same_number : (xs ys : List Bool) → length xs ≡ length ys → same_bits xs ys ≡ true → number xs ≡ number ys
unfolding same_bits
same_number [] [] e h = refl
same_number [] (y ∷ ys) e h = absurd (omega arith)
same_number (x ∷ xs) [] e h = absurd (omega arith)
same_number (x ∷ xs) (y ∷ ys) e h = go x y (and_parts (not (cond x (not y) y)) (same_bits xs ys) h).0 (same_number xs ys (omega arith) (and_parts (not (cond x (not y) y)) (same_bits xs ys) h).1)
  where
    go : (x y : Bool) → not (cond x (not y) y) ≡ true → number xs ≡ number ys → number (x ∷ xs) ≡ number (y ∷ ys)
    go true true t r = omega arith
    go true false t r = absurd (false≢true t)
    go false true t r = absurd (false≢true t)
    go false false t r = omega arith

number_same : (xs ys : List Bool) → length xs ≡ length ys → number xs ≡ number ys → same_bits xs ys ≡ true
unfolding same_bits
number_same [] ys e h = refl
number_same (x ∷ xs) [] e h = absurd (omega arith)
number_same (x ∷ xs) (y ∷ ys) e h = go x y h (λ r. number_same xs ys (omega arith) r)
  where
    go : (x y : Bool) → number (x ∷ xs) ≡ number (y ∷ ys) → (number xs ≡ number ys → same_bits xs ys ≡ true) → (not (cond x (not y) y) && same_bits xs ys) ≡ true
    go true true t r = r (omega arith)
    go true false t r = absurd (omega arith)
    go false true t r = absurd (omega arith)
    go false false t r = r (omega arith)

same_int : (a b : ℕ) (s : Bool) → a < 2 ^ 32 → b < 2 ^ 32 → (s ≡ true → a ≡ b) → (a ≡ b → s ≡ true) → s ≡ int_eq (int_of_bits a) (int_of_bits b)
same_int a b s at bt f g =
    same_test s (int_eq (int_of_bits a) (int_of_bits b)) (λ t. (Decides-int_eq (int_of_bits a) (int_of_bits b)).1 (ap int_of_bits (f t)))
    (λ t. g (sym (bits_of-int_of_bits a at) ∙ (ap bits_of ((Decides-int_eq (int_of_bits a) (int_of_bits b)).0 t) ∙ bits_of-int_of_bits b bt)))

pub eq_computes : (left right : List Literal) (f : Cnf) → IsCircuit f → length left ≡ 32 → length right ≡ 32 → IsWithin f.vars left → IsWithin f.vars right
    → Computes word_eq left right f (eq_word left right f).0 (eq_word left right f).1
unfolding eq_word int_under word_eq
eq_computes left right f circuit l r h k =
    truth_computes word_eq left right f (equal left right f) (λ v. same_bits (bits_under v left) (bits_under v right)) circuit
    (equal_gives left right f l (l ∙ sym r) h k)
    (λ v. let e : length (bits_under v left) ≡ length (bits_under v right) = length-map left (is_true v) ∙ ((l ∙ sym r) ∙ sym (length-map right (is_true v))) in
    ap truth_value (same_int (number (bits_under v left)) (number (bits_under v right)) _ (number-32 v left l) (number-32 v right r)
    (same_number (bits_under v left) (bits_under v right) e) (number_same (bits_under v left) (bits_under v right) e)))
