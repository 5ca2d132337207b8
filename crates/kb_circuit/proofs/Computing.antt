-- Circuits over words of 32 bits compute operations on ints.
use Rattle.std.proofs.Common.{◌≡◌, ℕ, zero, suc, ◌+◌, ◌*◌, ◌^◌, ◌<◌, ◌≤◌, ℤ, Bool, true, false, not, nat_lt, List, [], ◌∷◌, length, map, replicate, refl, sym, ap, subst, ◌∙◌, arith, Result, Ok, Err}
use Rattle.std.specs.Prelude.{IfOk}
use Rattle.std.proofs.lemmas.List.{length-map, length-replicate}
use Rattle.kb_arith.specs.Word.{truth as truth_value, word_add, word_sub, word_neg, word_ult}
use Rattle.kb_chain.specs.Literal.{Literal, negated, is_true}
use Rattle.kb_chain.specs.Clause.{Satisfies}
use Rattle.kb_chain.specs.Cnf.{Cnf, IsWithin, AllWithin}
use Rattle.kb_circuit.specs.Circuit.{truth, falsity, IsCircuit}
use Rattle.kb_circuit.specs.Words.{negated_bits, false_bits, truth_bits, plus, sums, add_word, sub_word, neg_word, below, ult_word}
use Rattle.kb_circuit.specs.Meaning.{bit, number, bits_under, int_under, Agrees, Extends, Defines, Chooses, AreVariables, IsFree, Computes}
use Rattle.kb_circuit.proofs.Formulas.{truth-true, within-more, satisfies-agrees}
use Rattle.kb_circuit.proofs.Defining.{Defines-known, set_at, set_at-same, set_at-agrees}
use Rattle.kb_circuit.proofs.GateLaws.{is_true-negated}
use Rattle.kb_circuit.proofs.Loops.{within-negated}
use Rattle.kb_circuit.proofs.WordLaws.{number-below, number-negated, Sums, plus_sums}
use Rattle.kb_circuit.proofs.Arithmetic.{int_sum, int_difference, int_negative, carry_below, int_below, int_truth}

pub if_ok : {A E : Type 0} {P Q : A → Type 0} (r : Result A E) → IfOk r P → ((x : A) → P x → Q x) → IfOk r Q
if_ok (Ok x) h k = k x h
if_ok (Err e) h k = tt

-- ---- inputs stay free

variables-more : (m n : ℕ) (inputs : List ℕ) → m ≤ n → AreVariables m inputs → AreVariables n inputs
variables-more m n [] le h = tt
variables-more m n (i ∷ inputs) le h = (let a : i ≤ m = h.0 in omega arith, variables-more m n inputs le h.1)

map-agrees : (n : ℕ) (v w : ℕ → Bool) (inputs : List ℕ) → Agrees n v w → AreVariables n inputs → map v inputs ≡ map w inputs
map-agrees n v w [] a h = refl
map-agrees n v w (i ∷ inputs) a h = ap (λ x. x ∷ map v inputs) (a i h.0) ∙ ap (λ x. w i ∷ x) (map-agrees n v w inputs a h.1)

pub free_kept : (inputs : List ℕ) (f g : Cnf) {P : (ℕ → Bool) → Type 0} → Defines f g P → AllWithin f.vars f.clauses → IsFree inputs f → IsFree inputs g
free_kept inputs f g d within h = record {
  variables = variables-more f.vars g.vars inputs d.grows h.variables;
  choose = λ choice. chosen choice (h.choose choice);
}
  where
    chosen : (choice : ℕ → Bool) → Chooses f inputs choice → Chooses g inputs choice
    chosen choice c =
        let e : Extends f g c.assignment = d.extends within c.assignment c.satisfies in
        record {
          assignment = e.assignment;
          chosen = sym (map-agrees f.vars c.assignment e.assignment inputs e.agrees h.variables) ∙ c.chosen;
          satisfies = e.satisfies;
        }

pub free_first : (f : Cnf) → f.clauses ≡ (truth ∷ []) ∷ [] → IsFree [] f
free_first f e = record {
  variables = tt;
  choose = λ choice. record { assignment = λ _. true; chosen = refl; satisfies = subst (Satisfies (λ _. true)) (sym e) (refl, tt) };
}

-- one more variable, of which no clause speaks, is one more input
pub free_input : (inputs : List ℕ) (f g : Cnf) (n : ℕ) → AllWithin f.vars f.clauses → n ≡ f.vars + 1 → g.vars ≡ f.vars + 1 → g.clauses ≡ f.clauses → IsFree inputs f → IsFree (n ∷ inputs) g
free_input inputs f g n within a b e h = record {
  variables = (omega arith, variables-more f.vars g.vars inputs (omega arith) h.variables);
  choose = λ choice. chosen choice (h.choose choice);
}
  where
    chosen : (choice : ℕ → Bool) → Chooses f inputs choice → Chooses g (n ∷ inputs) choice
    chosen choice c =
        let w : ℕ → Bool = set_at c.assignment (f.vars + 1) (choice n) in
        let same : Agrees f.vars c.assignment w = set_at-agrees c.assignment f.vars (choice n) in
        let first : w n ≡ choice n = ap w a ∙ set_at-same c.assignment (f.vars + 1) (choice n) in
        record {
          assignment = w;
          chosen = ap (λ x. x ∷ map w inputs) first ∙ ap (λ xs. choice n ∷ xs) (sym (map-agrees f.vars c.assignment w inputs same h.variables) ∙ c.chosen);
          satisfies = subst (Satisfies w) (sym e) (satisfies-agrees f.vars c.assignment w f.clauses same within c.satisfies);
        }

pub computes_from : (op : ℤ → ℤ → ℤ) (left right : List Literal) (f : Cnf) (r : List Literal × Cnf) {P : (ℕ → Bool) → Type 0} → IsCircuit f → IsWithin r.1.vars r.0 → Defines f r.1 P
    → ((v : ℕ → Bool) → Satisfies v f.clauses → P v → int_under v r.0 ≡ op (int_under v left) (int_under v right)) → Computes op left right f r.0 r.1
computes_from op left right f r circuit within d k = record {
  within = within;
  defines = Defines-known _ d k;
  free = λ inputs h. free_kept inputs f r.1 d circuit.within h;
}

-- ---- words of 32 bits

pub number-32 : (v : ℕ → Bool) (ls : List Literal) → length ls ≡ 32 → number (bits_under v ls) < 2 ^ 32
number-32 v ls e = subst (λ n. number (bits_under v ls) < 2 ^ n) (length-map ls (is_true v) ∙ e) (number-below (bits_under v ls))

pub negated-32 : (v : ℕ → Bool) (ls : List Literal) → length ls ≡ 32 → number (bits_under v (negated_bits ls)) + number (bits_under v ls) + 1 ≡ 2 ^ 32
negated-32 v ls e = number-negated v ls ∙ ap (λ n. 2 ^ n) e

pub falsity-false : (v : ℕ → Bool) (f : Cnf) → IsCircuit f → Satisfies v f.clauses → is_true v falsity ≡ false
falsity-false v f h s = ap not (truth-true v f h s)

-- a sum of 32 bits whose first carry is known
pub known : (s w l r : ℕ) (o c d : Bool) → w ≡ 32 → c ≡ d → s + 2 ^ w * bit o ≡ l + r + bit c → s + 2 ^ 32 * bit o ≡ l + r + bit d
known s w l r o c d e f h = subst (λ x. s + 2 ^ 32 * bit o ≡ l + r + bit x) f (subst (λ x. s + 2 ^ x * bit o ≡ l + r + bit c) e h)

pub add_computes : (left right : List Literal) (f : Cnf) → IsCircuit f → length left ≡ 32 → length right ≡ 32 → IsWithin f.vars left → IsWithin f.vars right
    → Computes word_add left right f (add_word left right f).0 (add_word left right f).1
unfolding add_word sums int_under
add_computes left right f circuit l r h k =
    let s : Sums f (plus left right falsity f) left right falsity = plus_sums left right falsity f (l ∙ sym r) h k circuit.variable in
    let out = plus left right falsity f in
    computes_from word_add left right f (out.0.0, out.1) circuit s.within s.defines (λ v sat m.
    int_sum (number (bits_under v out.0.0)) (number (bits_under v left)) (number (bits_under v right)) (is_true v out.0.1)
    (number-32 v out.0.0 (s.long ∙ l)) (number-32 v left l) (number-32 v right r)
    (known _ (length left) _ _ (is_true v out.0.1) (is_true v falsity) false l (falsity-false v f circuit sat) m))

pub sub_computes : (left right : List Literal) (f : Cnf) → IsCircuit f → length left ≡ 32 → length right ≡ 32 → IsWithin f.vars left → IsWithin f.vars right
    → Computes word_sub left right f (sub_word left right f).0 (sub_word left right f).1
unfolding sub_word sums int_under
sub_computes left right f circuit l r h k =
    let s : Sums f (plus left (negated_bits right) truth f) left (negated_bits right) truth =
    plus_sums left (negated_bits right) truth f (l ∙ sym (length-map right negated ∙ r)) h (within-negated f.vars right k) circuit.variable in
    let out = plus left (negated_bits right) truth f in
    computes_from word_sub left right f (out.0.0, out.1) circuit s.within s.defines (λ v sat m.
    int_difference (number (bits_under v out.0.0)) (number (bits_under v left)) (number (bits_under v right)) (number (bits_under v (negated_bits right))) (is_true v out.0.1)
    (number-32 v out.0.0 (s.long ∙ l)) (number-32 v left l) (number-32 v right r) (negated-32 v right r)
    (known _ (length left) _ _ (is_true v out.0.1) (is_true v truth) true l (truth-true v f circuit sat) m))

pub within-false : (n vars : ℕ) → 1 ≤ vars → IsWithin vars (replicate n falsity)
within-false zero vars h = refl
within-false (suc n) vars h = within-more vars falsity (replicate n falsity) h (within-false n vars h)

pub number-false : (v : ℕ → Bool) (n : ℕ) → is_true v falsity ≡ false → number (bits_under v (replicate n falsity)) ≡ 0
number-false v zero e = refl
number-false v (suc n) e = let b = ap bit e in let r = number-false v n e in omega arith

pub neg_computes : (of : List Literal) (f : Cnf) → IsCircuit f → length of ≡ 32 → IsWithin f.vars of
    → Computes (λ a _. word_neg a) of of f (neg_word of f).0 (neg_word of f).1
unfolding neg_word sums int_under
neg_computes of f circuit l h =
    let s : Sums f (plus false_bits (negated_bits of) truth f) false_bits (negated_bits of) truth =
    plus_sums false_bits (negated_bits of) truth f (length-replicate 32 falsity ∙ sym (length-map of negated ∙ l)) (within-false 32 f.vars circuit.variable)
    (within-negated f.vars of h) circuit.variable in
    let out = plus false_bits (negated_bits of) truth f in
    computes_from (λ a _. word_neg a) of of f (out.0.0, out.1) circuit s.within s.defines (λ v sat m.
    int_negative (number (bits_under v out.0.0)) (number (bits_under v of)) (number (bits_under v false_bits)) (number (bits_under v (negated_bits of))) (is_true v out.0.1)
    (number-32 v out.0.0 (s.long ∙ length-replicate 32 falsity)) (number-32 v of l) (number-false v 32 (falsity-false v f circuit sat)) (negated-32 v of l)
    (known _ (length false_bits) _ _ (is_true v out.0.1) (is_true v truth) true (length-replicate 32 falsity) (truth-true v f circuit sat) m))

-- ---- comparisons

pub record GivesBit (f : Cnf) (out : Literal × Cnf) (value : (ℕ → Bool) → Bool) : Type 0 where
  pub within : out.0.variable ≤ out.1.vars
  pub grows : f.vars ≤ out.1.vars
  pub defines : Defines f out.1 (λ v. is_true v out.0 ≡ value v)

pub below_gives : (left right : List Literal) (f : Cnf) → IsCircuit f → length left ≡ 32 → length right ≡ 32 → IsWithin f.vars left → IsWithin f.vars right
    → GivesBit f (below left right f) (λ v. nat_lt (number (bits_under v left)) (number (bits_under v right)))
unfolding below
below_gives left right f circuit l r h k =
    let s : Sums f (plus left (negated_bits right) truth f) left (negated_bits right) truth =
    plus_sums left (negated_bits right) truth f (l ∙ sym (length-map right negated ∙ r)) h (within-negated f.vars right k) circuit.variable in
    let out = plus left (negated_bits right) truth f in
    record {
      within = s.carry;
      grows = s.defines.grows;
      defines = Defines-known _ s.defines (λ v sat m.
          is_true-negated v out.0.1
          ∙ carry_below (number (bits_under v out.0.0)) (number (bits_under v left)) (number (bits_under v right)) (number (bits_under v (negated_bits right))) (is_true v out.0.1)
          (number-32 v out.0.0 (s.long ∙ l)) (negated-32 v right r)
          (known _ (length left) _ _ (is_true v out.0.1) (is_true v truth) true l (truth-true v f circuit sat) m));
    }

-- a comparison's word is the comparison
pub truth_computes : (op : ℤ → ℤ → ℤ) (left right : List Literal) (f : Cnf) (r : Literal × Cnf) (value : (ℕ → Bool) → Bool) → IsCircuit f → GivesBit f r value
    → ((v : ℕ → Bool) → truth_value (value v) ≡ op (int_under v left) (int_under v right)) → Computes op left right f (truth_bits r.0) r.1
unfolding int_under
truth_computes op left right f r value circuit g k =
    let low : 1 ≤ f.vars = circuit.variable in
    let up : f.vars ≤ r.1.vars = g.grows in
    computes_from op left right f (truth_bits r.0, r.1) circuit (within-more r.1.vars r.0 (replicate 31 falsity) g.within (within-false 31 r.1.vars (omega arith))) g.defines
    (λ v sat m. int_truth (is_true v r.0) (number (bits_under v (replicate 31 falsity))) (number-false v 31 (falsity-false v f circuit sat)) ∙ (ap truth_value m ∙ k v))

pub ult_computes : (left right : List Literal) (f : Cnf) → IsCircuit f → length left ≡ 32 → length right ≡ 32 → IsWithin f.vars left → IsWithin f.vars right
    → Computes word_ult left right f (ult_word left right f).0 (ult_word left right f).1
unfolding ult_word int_under
ult_computes left right f circuit l r h k =
    truth_computes word_ult left right f (below left right f) (λ v. nat_lt (number (bits_under v left)) (number (bits_under v right))) circuit (below_gives left right f circuit l r h k)
    (λ v. int_below (number (bits_under v left)) (number (bits_under v right)) (number-32 v left l) (number-32 v right r))
