-- The rows of a product add up to the product, but for multiples of 2 ^ width, which are lost.
use Rattle.std.proofs.Common.{◌≡◌, ℕ, suc, ◌+◌, ◌-◌, ◌*◌, ◌%◌, ◌^◌, ◌<◌, ◌≤◌, Bool, true, false, ◌&&◌, List, [], ◌∷◌, ◌++◌, length, take, drop, replicate, sym, ap, subst, ◌∙◌, arith}
use native.Mathlib.Nat.{pow-suc}
use Rattle.std.proofs.lemmas.Nat.{pow-add}
use Rattle.std.proofs.lemmas.List.{length-append, length-replicate, length-take}
use Rattle.kb_arith.specs.Word.{bits_of, int_of_bits, word_mul}
use Rattle.kb_arith.proofs.Laws.{bits_of-int_of_bits, int_of_bits-fits, word_mul-fits, bits_of-word_mul}
use Rattle.kb_chain.specs.Literal.{Literal, is_true}
use Rattle.kb_chain.specs.Cnf.{Cnf, IsWithin}
use Rattle.kb_chain.proofs.CnfLaws.{IsWithin_more}
use Rattle.kb_circuit.specs.Circuit.{falsity, IsCircuit}
use Rattle.kb_circuit.specs.Words.{and_word, add_word, plus, sums}
use Rattle.kb_circuit.specs.Multiplication.{row_word, with_row, with_rows, mul_word}
use Rattle.kb_circuit.specs.declared.gate.Gate.TheVariants.{And}
use Rattle.kb_circuit.specs.Meaning.{bit, number, bits_under, int_under, Defines, Computes}
use Rattle.kb_circuit.proofs.Formulas.{within-head, within-tail}
use Rattle.kb_circuit.proofs.Defining.{Defines-none, Defines-then, Defines-map}
use Rattle.kb_circuit.proofs.GateLaws.{gate_value}
use Rattle.kb_circuit.proofs.WordLaws.{GivesWord, bitwise_gives, Sums, plus_sums, both_bits}
use Rattle.kb_circuit.proofs.Arithmetic.{from_bits}
use Rattle.kb_circuit.proofs.Computing.{computes_from, number-32, falsity-false}
use Rattle.kb_circuit.proofs.Shifting.{within-append, within-copies, within-take}
use Rattle.kb_circuit.proofs.Beginning.{Keeps, keeps-and_word, keeps-add}
use Rattle.kb_circuit.proofs.ShiftWords.{number-copies, number-under, split_number}

-- ---- numbers of rows

-- a number, but for a multiple of 2 ^ width that is lost
abbrev Lacks : ℕ → ℕ → ℕ → Type 0
Lacks width n whole = (lost : ℕ) × (n + 2 ^ width * lost ≡ whole)

-- a word is a number in this sense under each assignment that satisfies the clauses
record AddsUp (f : Cnf) (out : List Literal × Cnf) (width : ℕ) (value : (ℕ → Bool) → ℕ) : Type 0 where
  long : length out.0 ≡ width
  within : IsWithin out.1.vars out.0
  defines : Defines f out.1 (λ v. is_true v falsity ≡ false → Lacks width (number (bits_under v out.0)) (value v))

number_and : (v : ℕ → Bool) (l : Literal) (ls : List Literal)
    → number (both_bits (gate_value And v) (bits_under v ls) (bits_under v (replicate (length ls) l))) ≡ bit (is_true v l) * number (bits_under v ls)
number_and v l [] = grind arith
number_and v l (a ∷ ls) = step (is_true v a) (is_true v l) _ (number (bits_under v ls)) (number_and v l ls)
  where
    step : (x b : Bool) (n m : ℕ) → n ≡ bit b * m → bit (x && b) + 2 * n ≡ bit b * (bit x + 2 * m)
    step true true n m e = omega arith
    step true false n m e = omega arith
    step false true n m e = omega arith
    step false false n m e = omega arith

-- a row of the low bits t of a number n, where m is 2 ^ width
row_number : (p q m b t d n r : ℕ) → m ≡ p * q → n ≡ t + q * d → r ≡ p * (b * t) → r + m * (b * d) ≡ p * (b * n)
row_number p q m b t d n r e h k = rw (e, h, k) (grind arith)

row_value : (v : ℕ → Bool) (j n : ℕ) (b : Literal) (out ls : List Literal) → is_true v falsity ≡ false → n ≡ length ls
    → bits_under v out ≡ both_bits (gate_value And v) (bits_under v ls) (bits_under v (replicate n b))
    → number (bits_under v (replicate j falsity ++ out)) ≡ 2 ^ j * (bit (is_true v b) * number (bits_under v ls))
row_value v j n b out ls e w m =
    let bits : number (bits_under v out) ≡ bit (is_true v b) * number (bits_under v ls) =
    ap number m ∙ (ap (λ k. number (both_bits (gate_value And v) (bits_under v ls) (bits_under v (replicate k b)))) w ∙ number_and v b ls) in
    number-under v (replicate j falsity) out j (length-replicate j falsity)
    ∙ (above_none (number (bits_under v (replicate j falsity))) (2 ^ j * number (bits_under v out)) (number-copies v j falsity e) ∙ ap (λ k. 2 ^ j * k) bits)
  where
    above_none : (z n : ℕ) → z ≡ 0 → z + n ≡ n
    above_none z n h = omega arith

row_adds_up : (j : ℕ) (left : List Literal) (b : Literal) (f : Cnf) → 1 ≤ f.vars → j ≤ length left → IsWithin f.vars left → b.variable ≤ f.vars
    → AddsUp f (row_word j left b f) (length left) (λ v. 2 ^ j * (bit (is_true v b) * number (bits_under v left)))
unfolding row_word
row_adds_up j left b f low le h k =
    let n : ℕ = length left - j in
    let taken : length (take n left) ≡ n = omega (arith, length-take n left) in
    let out : List Literal × Cnf = and_word (take n left) (replicate n b) f in
    let g : GivesWord f out (length (take n left)) (λ v. both_bits (gate_value And v) (bits_under v (take n left)) (bits_under v (replicate n b))) =
    bitwise_gives And (take n left) (replicate n b) f (taken ∙ sym (length-replicate n b)) tt (within-take f.vars n left h) (within-copies f.vars n b k) in
    let up : f.vars ≤ out.1.vars = g.defines.grows in
    let bits : length out.0 ≡ n = g.long ∙ taken in
    let whole : length left ≡ j + n = omega arith in
    record {
      long = omega (arith, length-append (replicate j falsity) out.0, length-replicate j falsity);
      within = within-append out.1.vars (replicate j falsity) out.0 (within-copies out.1.vars j falsity (omega arith)) g.within;
      defines = Defines-map _ g.defines (λ v m e. (
        bit (is_true v b) * number (bits_under v (drop n left)),
        row_number (2 ^ j) (2 ^ n) (2 ^ length left) (bit (is_true v b)) (number (bits_under v (take n left))) (number (bits_under v (drop n left))) (number (bits_under v left))
            (number (bits_under v (replicate j falsity ++ out.0))) (ap (λ k. 2 ^ k) whole ∙ pow-add 2 j n) (split_number v left n (omega arith))
            (row_value v j n b out.0 (take n left) e (sym taken) m),
      ));
    }

-- ---- sums of rows

-- of a sum the last carry is lost
with_row_number : (s m lost a r p : ℕ) (o c : Bool) → c ≡ false → s + m * bit o ≡ a + r + bit c → r + m * lost ≡ p → s + m * (lost + bit o) ≡ a + p
with_row_number s m lost a r p o c e h k = let sum : s + m * bit o ≡ a + r + 0 = subst (λ x. s + m * bit o ≡ a + r + bit x) e h in grind arith

with_row_adds_up : (j : ℕ) (sum left : List Literal) (b : Literal) (f : Cnf) → 1 ≤ f.vars → j ≤ length left → length sum ≡ length left
    → IsWithin f.vars sum → IsWithin f.vars left → b.variable ≤ f.vars
    → AddsUp f (with_row j sum left b f) (length left) (λ v. number (bits_under v sum) + 2 ^ j * (bit (is_true v b) * number (bits_under v left)))
unfolding with_row add_word sums
with_row_adds_up j sum left b f low le long within h k =
    let row : List Literal × Cnf = row_word j left b f in
    let r : AddsUp f row (length left) (λ v. 2 ^ j * (bit (is_true v b) * number (bits_under v left))) = row_adds_up j left b f low le h k in
    let up : f.vars ≤ row.1.vars = r.defines.grows in
    let out = plus sum row.0 falsity row.1 in
    let s : Sums row.1 out sum row.0 falsity = plus_sums sum row.0 falsity row.1 (long ∙ sym r.long) (IsWithin_more f.vars row.1.vars sum up within) r.within (omega arith) in
    record {
      long = s.long ∙ long;
      within = s.within;
      defines = Defines-map _ (Defines-then r.defines s.defines) (λ v m e. (
        (m.0 e).0 + bit (is_true v out.0.1),
        with_row_number (number (bits_under v out.0.0)) (2 ^ length left) (m.0 e).0 (number (bits_under v sum)) (number (bits_under v row.0))
            (2 ^ j * (bit (is_true v b) * number (bits_under v left))) (is_true v out.0.1) (is_true v falsity) e
            (subst (λ w. number (bits_under v out.0.0) + 2 ^ w * bit (is_true v out.0.1) ≡ number (bits_under v sum) + number (bits_under v row.0) + bit (is_true v falsity)) long m.1)
            (m.0 e).1,
      ));
    }

-- the rows of the bits above the first
with_rows_number : (s m lost more again a p q l b r : ℕ) → q ≡ p * 2 → more + m * lost ≡ a + p * (b * l) → s + m * again ≡ more + q * (l * r) → s + m * (again + lost) ≡ a + p * (l * (b + 2 * r))
with_rows_number s m lost more again a p q l b r e h k =
    let left : s + m * (again + lost) ≡ s + m * again + m * lost = grind arith in
    let right : p * (l * (b + 2 * r)) ≡ p * (b * l) + p * 2 * (l * r) = grind arith in
    let next : s + m * again ≡ more + p * 2 * (l * r) = subst (λ x. s + m * again ≡ more + x * (l * r)) e k in
    omega arith

none_lost : (m a p l : ℕ) → a + m * 0 ≡ a + p * (l * 0)
none_lost m a p l = grind arith

with_rows_add_up : (j : ℕ) (sum left right : List Literal) (f : Cnf) → 1 ≤ f.vars → j + length right ≤ length left → length sum ≡ length left
    → IsWithin f.vars sum → IsWithin f.vars left → IsWithin f.vars right
    → AddsUp f (with_rows j sum left right f) (length left) (λ v. number (bits_under v sum) + 2 ^ j * (number (bits_under v left) * number (bits_under v right)))
unfolding with_rows
with_rows_add_up j sum left [] f low le long within h k =
    record {
      long = long;
      within = within;
      defines = Defines-map _ (Defines-none f) (λ v m e. (0, none_lost (2 ^ length left) (number (bits_under v sum)) (2 ^ j) (number (bits_under v left))));
    }
with_rows_add_up j sum left (b ∷ right) f low le long within h k =
    let one : List Literal × Cnf = with_row j sum left b f in
    let r : AddsUp f one (length left) (λ v. number (bits_under v sum) + 2 ^ j * (bit (is_true v b) * number (bits_under v left))) =
    with_row_adds_up j sum left b f low (omega arith) long within h (within-head f.vars b right k) in
    let up : f.vars ≤ one.1.vars = r.defines.grows in
    let rest : AddsUp one.1 (with_rows (j + 1) one.0 left right one.1) (length left) (λ v. number (bits_under v one.0) + 2 ^ (j + 1) * (number (bits_under v left) * number (bits_under v right))) =
    with_rows_add_up (j + 1) one.0 left right one.1 (omega arith) (omega arith) r.long r.within (IsWithin_more f.vars one.1.vars left up h)
    (IsWithin_more f.vars one.1.vars right up (within-tail f.vars b right k)) in
    let next : j + 1 ≡ suc j = omega arith in
    record {
      long = rest.long;
      within = rest.within;
      defines = Defines-map _ (Defines-then r.defines rest.defines) (λ v m e. (
        (m.1 e).0 + (m.0 e).0,
        with_rows_number (number (bits_under v (with_rows (j + 1) one.0 left right one.1).0)) (2 ^ length left) (m.0 e).0 (number (bits_under v one.0)) (m.1 e).0
            (number (bits_under v sum)) (2 ^ j) (2 ^ (j + 1)) (number (bits_under v left)) (bit (is_true v b)) (number (bits_under v right))
            (ap (λ i. 2 ^ i) next ∙ pow-suc 2 j) (m.0 e).1 (m.1 e).1,
      ));
    }

-- the first row and the others
mul_number : (s m lost again first l b r : ℕ) → first + m * lost ≡ 1 * (b * l) → s + m * again ≡ first + 2 * (l * r) → s + m * (again + lost) ≡ l * (b + 2 * r)
mul_number s m lost again first l b r h k = grind arith

no_rows : (s m l : ℕ) → s ≡ 0 → s + m * 0 ≡ l * 0
no_rows s m l e = rw e (grind arith)

mul_adds_up : (left right : List Literal) (f : Cnf) → 1 ≤ f.vars → length right ≤ length left → IsWithin f.vars left → IsWithin f.vars right
    → AddsUp f (mul_word left right f) (length left) (λ v. number (bits_under v left) * number (bits_under v right))
unfolding mul_word
mul_adds_up left [] f low le h k =
    record {
      long = length-replicate (length left) falsity;
      within = within-copies f.vars (length left) falsity low;
      defines = Defines-map _ (Defines-none f) (λ v m e. (
        0,
        no_rows (number (bits_under v (replicate (length left) falsity))) (2 ^ length left) (number (bits_under v left)) (number-copies v (length left) falsity e),
      ));
    }
mul_adds_up left (b ∷ right) f low le h k =
    let one : List Literal × Cnf = row_word 0 left b f in
    let r : AddsUp f one (length left) (λ v. 2 ^ 0 * (bit (is_true v b) * number (bits_under v left))) = row_adds_up 0 left b f low (omega arith) h (within-head f.vars b right k) in
    let up : f.vars ≤ one.1.vars = r.defines.grows in
    let rest : AddsUp one.1 (with_rows 1 one.0 left right one.1) (length left) (λ v. number (bits_under v one.0) + 2 ^ 1 * (number (bits_under v left) * number (bits_under v right))) =
    with_rows_add_up 1 one.0 left right one.1 (omega arith) (omega arith) r.long r.within (IsWithin_more f.vars one.1.vars left up h)
    (IsWithin_more f.vars one.1.vars right up (within-tail f.vars b right k)) in
    record {
      long = rest.long;
      within = rest.within;
      defines = Defines-map _ (Defines-then r.defines rest.defines) (λ v m e. (
        (m.1 e).0 + (m.0 e).0,
        mul_number (number (bits_under v (with_rows 1 one.0 left right one.1).0)) (2 ^ length left) (m.0 e).0 (m.1 e).0 (number (bits_under v one.0))
            (number (bits_under v left)) (bit (is_true v b)) (number (bits_under v right)) (m.0 e).1 (m.1 e).1,
      ));
    }

-- ---- words of 32 bits

product_mod : (s p lost : ℕ) → s < 2 ^ 32 → s + 2 ^ 32 * lost ≡ p → s ≡ p % 2 ^ 32
product_mod s p lost lt e = omega arith

int_product : (s a b lost : ℕ) → s < 2 ^ 32 → a < 2 ^ 32 → b < 2 ^ 32 → s + 2 ^ 32 * lost ≡ a * b → int_of_bits s ≡ word_mul (int_of_bits a) (int_of_bits b)
int_product s a b lost lt at bt e =
    let m : s ≡ (bits_of (int_of_bits a) * bits_of (int_of_bits b)) % 2 ^ 32 = rw (bits_of-int_of_bits a at, bits_of-int_of_bits b bt) (product_mod s (a * b) lost lt e) in
    from_bits s _ (word_mul-fits (int_of_bits a) (int_of_bits b)) (m ∙ sym (bits_of-word_mul (int_of_bits a) (int_of_bits b) (int_of_bits-fits a) (int_of_bits-fits b)))

pub mul_computes : (left right : List Literal) (f : Cnf) → IsCircuit f → length left ≡ 32 → length right ≡ 32 → IsWithin f.vars left → IsWithin f.vars right
    → Computes word_mul left right f (mul_word left right f).0 (mul_word left right f).1
unfolding int_under
mul_computes left right f circuit l r h k =
    let g : AddsUp f (mul_word left right f) (length left) (λ v. number (bits_under v left) * number (bits_under v right)) = mul_adds_up left right f circuit.variable (omega arith) h k in
    let out : List Literal = (mul_word left right f).0 in
    computes_from word_mul left right f (mul_word left right f) circuit g.within g.defines (λ v sat m.
    let lacks : Lacks (length left) (number (bits_under v out)) (number (bits_under v left) * number (bits_under v right)) = m (falsity-false v f circuit sat) in
    int_product (number (bits_under v out)) (number (bits_under v left)) (number (bits_under v right)) lacks.0
    (number-32 v out (g.long ∙ l)) (number-32 v left l) (number-32 v right r)
    (subst (λ w. number (bits_under v out) + 2 ^ w * lacks.0 ≡ number (bits_under v left) * number (bits_under v right)) l lacks.1))

pub length-mul : (left right : List Literal) (f : Cnf) → length left ≡ 32 → length right ≡ 32 → IsWithin f.vars left → IsWithin f.vars right → 1 ≤ f.vars → length (mul_word left right f).0 ≡ 32
length-mul left right f l r h k low =
    let g : AddsUp f (mul_word left right f) (length left) (λ v. number (bits_under v left) * number (bits_under v right)) = mul_adds_up left right f low (omega arith) h k in g.long ∙ l

-- ---- a product keeps the first clause

keeps-row : (j : ℕ) (left : List Literal) (b : Literal) → Keeps (row_word j left b)
unfolding row_word
keeps-row j left b f h = keeps-and_word (take (length left - j) left) (replicate (length left - j) b) f h

keeps-with_row : (j : ℕ) (sum left : List Literal) (b : Literal) → Keeps (with_row j sum left b)
unfolding with_row
keeps-with_row j sum left b f h = let row = row_word j left b f in keeps-add sum row.0 row.1 (keeps-row j left b f h)

keeps-with_rows : (j : ℕ) (sum left right : List Literal) → Keeps (with_rows j sum left right)
unfolding with_rows
keeps-with_rows j sum left [] f h = h
keeps-with_rows j sum left (b ∷ right) f h =
    let one = with_row j sum left b f in keeps-with_rows (j + 1) one.0 left right one.1 (keeps-with_row j sum left b f h)

pub keeps-mul : (left right : List Literal) → Keeps (mul_word left right)
unfolding mul_word
keeps-mul left [] f h = h
keeps-mul left (b ∷ right) f h = let one = row_word 0 left b f in keeps-with_rows 1 one.0 left right one.1 (keeps-row 0 left b f h)
