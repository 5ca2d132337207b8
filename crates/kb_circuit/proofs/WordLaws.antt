-- What circuits over words mean, for any width.
use Rattle.std.proofs.Common.{◌≡◌, ℕ, suc, ◌+◌, ◌*◌, ◌^◌, ◌<◌, ◌≤◌, Bool, true, false, not, List, [], ◌∷◌, length, refl, ap, ◌∙◌, arith}
use native.Mathlib.Nat.{pow-suc}
use Rattle.kb_chain.specs.Literal.{Literal, is_true}
use Rattle.kb_chain.specs.Cnf.{Cnf, IsWithin}
use Rattle.kb_chain.proofs.CnfLaws.{IsWithin_more}
use Rattle.kb_circuit.specs.Gates.{gate_of, full_adder}
use Rattle.kb_circuit.specs.Words.{bitwise, plus, negated_bits, GateFits}
use Rattle.kb_circuit.specs.declared.gate.Gate.{Gate}
use Rattle.kb_circuit.specs.Meaning.{bit, number, bits_under, Defines}
use Rattle.kb_circuit.proofs.Formulas.{within-more, within-head, within-tail}
use Rattle.kb_circuit.proofs.Defining.{Defines-none, Defines-then, Defines-map}
use Rattle.kb_circuit.proofs.GateLaws.{is_true-negated, gate_value, Gives, gate_gives, Adds, adder_adds}
use Rattle.kb_circuit.proofs.Loops.{gate_fits-more}

-- ---- numbers

pub bit-le : (b : Bool) → bit b ≤ 1
bit-le true = omega arith
bit-le false = omega arith

pub number-below : (bs : List Bool) → number bs < 2 ^ length bs
number-below [] = omega arith
number-below (b ∷ bs) = let low = bit-le b in let high = number-below bs in let e = pow-suc 2 (length bs) in omega arith

-- ---- a gate for each bit

abbrev pub both_bits : (Bool → Bool → Bool) → List Bool → List Bool → List Bool
both_bits op [] _ = []
both_bits op (a ∷ left) [] = []
both_bits op (a ∷ left) (b ∷ right) = op a b ∷ both_bits op left right

-- a word has a value under each assignment that satisfies the clauses
pub record GivesWord (f : Cnf) (out : List Literal × Cnf) (width : ℕ) (value : (ℕ → Bool) → List Bool) : Type 0 where
  pub long : length out.0 ≡ width
  pub within : IsWithin out.1.vars out.0
  pub defines : Defines f out.1 (λ v. bits_under v out.0 ≡ value v)

cons_same : (a b : Bool) (xs ys : List Bool) → a ≡ b → xs ≡ ys → (a ∷ xs) ≡ (b ∷ ys)
cons_same a b xs ys e f = ap (λ x. x ∷ xs) e ∙ ap (λ x. b ∷ x) f

pub bitwise_gives : (gate : Gate) (left right : List Literal) (f : Cnf) → length left ≡ length right → GateFits gate f.vars → IsWithin f.vars left → IsWithin f.vars right
    → GivesWord f (bitwise gate left right f) (length left) (λ v. both_bits (gate_value gate v) (bits_under v left) (bits_under v right))
unfolding bitwise
bitwise_gives gate [] right f e g h k = record { long = refl; within = refl; defines = Defines-map _ (Defines-none f) (λ v m. refl) }
bitwise_gives gate (a ∷ left) [] f e g h k = absurd (omega arith)
bitwise_gives gate (a ∷ left) (b ∷ right) f e g h k =
    let one = gate_of gate a b f in
    let d : Gives f one (λ v. gate_value gate v (is_true v a) (is_true v b)) = gate_gives gate a b f g (within-head f.vars a left h) (within-head f.vars b right k) in
    let up : f.vars ≤ one.1.vars = d.defines.grows in
    let rest = bitwise gate left right one.1 in
    let r : GivesWord one.1 rest (length left) (λ v. both_bits (gate_value gate v) (bits_under v left) (bits_under v right)) =
    bitwise_gives gate left right one.1 (omega arith) (gate_fits-more gate f.vars one.1.vars up g)
    (IsWithin_more f.vars one.1.vars left up (within-tail f.vars a left h)) (IsWithin_more f.vars one.1.vars right up (within-tail f.vars b right k)) in
    let more : one.1.vars ≤ rest.1.vars = r.defines.grows in
    let low : one.0.variable ≤ one.1.vars = d.within in
    record {
      long = ap suc r.long;
      within = within-more rest.1.vars one.0 rest.0 (omega arith) r.within;
      defines = Defines-map _ (Defines-then d.defines r.defines) (λ v m. cons_same _ _ _ _ m.0 m.1);
    }

-- ---- the adder

pub record Sums (f : Cnf) (out : (List Literal × Literal) × Cnf) (left right : List Literal) (c : Literal) : Type 0 where
  pub long : length out.0.0 ≡ length left
  pub within : IsWithin out.1.vars out.0.0
  pub carry : out.0.1.variable ≤ out.1.vars
  pub defines : Defines f out.1 (λ v. number (bits_under v out.0.0) + 2 ^ length left * bit (is_true v out.0.1)
      ≡ number (bits_under v left) + number (bits_under v right) + bit (is_true v c))

carried : (s c1 a b c n l r m p : ℕ) (o : Bool) → p ≡ m * 2 → s + 2 * c1 ≡ a + b + c → n + m * bit o ≡ l + r + c1 → (s + 2 * n) + p * bit o ≡ (a + 2 * l) + (b + 2 * r) + c
carried s c1 a b c n l r m p true e h k = omega arith
carried s c1 a b c n l r m p false e h k = omega arith

pub plus_sums : (left right : List Literal) (c : Literal) (f : Cnf) → length left ≡ length right → IsWithin f.vars left → IsWithin f.vars right → c.variable ≤ f.vars
    → Sums f (plus left right c f) left right c
unfolding plus
plus_sums [] [] c f e h k j = record { long = refl; within = refl; carry = j; defines = Defines-map _ (Defines-none f) (λ v m. omega arith) }
plus_sums [] (b ∷ right) c f e h k j = absurd (omega arith)
plus_sums (a ∷ left) [] c f e h k j = absurd (omega arith)
plus_sums (a ∷ left) (b ∷ right) c f e h k j =
    let one = full_adder a b c f in
    let d : Adds f one a b c = adder_adds a b c f (within-head f.vars a left h) (within-head f.vars b right k) j in
    let up : f.vars ≤ one.1.vars = d.defines.grows in
    let rest = plus left right one.0.1 one.1 in
    let r : Sums one.1 rest left right one.0.1 =
    plus_sums left right one.0.1 one.1 (omega arith)
    (IsWithin_more f.vars one.1.vars left up (within-tail f.vars a left h)) (IsWithin_more f.vars one.1.vars right up (within-tail f.vars b right k)) d.carry in
    let more : one.1.vars ≤ rest.1.vars = r.defines.grows in
    let low : one.0.0.variable ≤ one.1.vars = d.sum in
    record {
      long = ap suc r.long;
      within = within-more rest.1.vars one.0.0 rest.0.0 (omega arith) r.within;
      carry = r.carry;
      defines = Defines-map _ (Defines-then d.defines r.defines) (λ v m.
          carried (bit (is_true v one.0.0)) (bit (is_true v one.0.1)) (bit (is_true v a)) (bit (is_true v b)) (bit (is_true v c))
          (number (bits_under v rest.0.0)) (number (bits_under v left)) (number (bits_under v right)) (2 ^ length left) (2 ^ suc (length left)) (is_true v rest.0.1)
          (pow-suc 2 (length left)) m.0 m.1);
    }

-- ---- negation

not_bit : (b : Bool) → bit (not b) + bit b ≡ 1
not_bit true = refl
not_bit false = refl

pub number-negated : (v : ℕ → Bool) (ls : List Literal) → number (bits_under v (negated_bits ls)) + number (bits_under v ls) + 1 ≡ 2 ^ length ls
number-negated v [] = refl
number-negated v (l ∷ ls) =
    let e = ap bit (is_true-negated v l) in
    let n = not_bit (is_true v l) in
    let r = number-negated v ls in
    let p = pow-suc 2 (length ls) in
    omega arith
