-- Operations on words of one width give words of that width.
use Rattle.std.proofs.Common.{◌≡◌, ℕ, suc, ◌≤◌, List, [], ◌∷◌, length, refl, sym, ap, ◌∙◌, arith}
use Rattle.std.proofs.lemmas.List.{length-map, length-replicate}
use Rattle.kb_chain.specs.Literal.{Literal, negated}
use Rattle.kb_chain.specs.Cnf.{Cnf}
use Rattle.kb_circuit.specs.Circuit.{truth, falsity}
use Rattle.kb_circuit.specs.Gates.{gate_of, full_adder}
use Rattle.kb_circuit.specs.Words.{negated_bits, false_bits, bitwise, and_word, or_word, xor_word, plus, sums, add_word, sub_word, neg_word, eq_word, ult_word, lt_word}
use Rattle.kb_circuit.specs.Shifts.{moved, stage, shift_word, shl_word, shr_word, ushr_word}
use Rattle.kb_circuit.specs.declared.gate.Gate.{Gate}
use Rattle.kb_circuit.specs.declared.gate.Gate.TheVariants.{And, Or, Xor, Mux}
use Rattle.kb_circuit.specs.declared.shift.Shift.{Shift}
use Rattle.kb_circuit.specs.declared.shift.Shift.TheVariants.{Shl, Shr, Ushr}
use Rattle.kb_circuit.proofs.Shifting.{length-moved}

pub length-bitwise : (gate : Gate) (left right : List Literal) (f : Cnf) → length left ≡ length right → length (bitwise gate left right f).0 ≡ length left
unfolding bitwise
length-bitwise gate [] right f e = refl
length-bitwise gate (a ∷ left) [] f e = absurd (omega arith)
length-bitwise gate (a ∷ left) (b ∷ right) f e = ap suc (length-bitwise gate left right (gate_of gate a b f).1 (omega arith))

pub length-and : (left right : List Literal) (f : Cnf) → length left ≡ length right → length (and_word left right f).0 ≡ length left
length-and left right f e = length-bitwise And left right f e

pub length-or : (left right : List Literal) (f : Cnf) → length left ≡ length right → length (or_word left right f).0 ≡ length left
length-or left right f e = length-bitwise Or left right f e

pub length-xor : (left right : List Literal) (f : Cnf) → length left ≡ length right → length (xor_word left right f).0 ≡ length left
length-xor left right f e = length-bitwise Xor left right f e

pub length-plus : (left right : List Literal) (c : Literal) (f : Cnf) → length left ≡ length right → length (plus left right c f).0.0 ≡ length left
unfolding plus
length-plus [] right c f e = refl
length-plus (a ∷ left) [] c f e = absurd (omega arith)
length-plus (a ∷ left) (b ∷ right) c f e =
    let one = full_adder a b c f in ap suc (length-plus left right one.0.1 one.1 (omega arith))

pub length-add : (left right : List Literal) (f : Cnf) → length left ≡ length right → length (add_word left right f).0 ≡ length left
unfolding add_word sums
length-add left right f e = length-plus left right falsity f e

pub length-sub : (left right : List Literal) (f : Cnf) → length left ≡ length right → length (sub_word left right f).0 ≡ length left
unfolding sub_word sums
length-sub left right f e = length-plus left (negated_bits right) truth f (e ∙ sym (length-map right negated))

pub length-neg : (of : List Literal) (f : Cnf) → length of ≡ 32 → length (neg_word of f).0 ≡ 32
unfolding neg_word sums
length-neg of f e =
    length-plus false_bits (negated_bits of) truth f (length-replicate 32 falsity ∙ sym (length-map of negated ∙ e)) ∙ length-replicate 32 falsity

pub length-eq : (left right : List Literal) (f : Cnf) → length (eq_word left right f).0 ≡ 32
unfolding eq_word
length-eq left right f = ap suc (length-replicate 31 falsity)

pub length-ult : (left right : List Literal) (f : Cnf) → length (ult_word left right f).0 ≡ 32
unfolding ult_word
length-ult left right f = ap suc (length-replicate 31 falsity)

pub length-lt : (left right : List Literal) (f : Cnf) → length (lt_word left right f).0 ≡ 32
unfolding lt_word
length-lt left right f = ap suc (length-replicate 31 falsity)

length-stage : (shift : Shift) (n : ℕ) (by : Literal) (bits : List Literal) (f : Cnf) → n ≤ 32 → length bits ≡ 32 → length (stage shift n by bits f).0 ≡ 32
unfolding stage
length-stage shift n by bits f le e =
    let moves : length (moved shift n bits) ≡ length bits = length-moved shift n bits (omega arith) in
    length-bitwise (Mux by) (moved shift n bits) bits f moves ∙ (moves ∙ e)

length-shift : (shift : Shift) (bits count : List Literal) (f : Cnf) → length bits ≡ 32 → length (shift_word shift bits count f).0 ≡ 32
unfolding shift_word
length-shift shift bits count f e =
    length-stage shift 16 _ _ _ (omega arith) (length-stage shift 8 _ _ _ (omega arith) (length-stage shift 4 _ _ _ (omega arith)
    (length-stage shift 2 _ _ _ (omega arith) (length-stage shift 1 _ bits f (omega arith) e))))

pub length-shl : (bits count : List Literal) (f : Cnf) → length bits ≡ 32 → length (shl_word bits count f).0 ≡ 32
length-shl bits count f e = length-shift Shl bits count f e

pub length-shr : (bits count : List Literal) (f : Cnf) → length bits ≡ 32 → length (shr_word bits count f).0 ≡ 32
length-shr bits count f e = length-shift Shr bits count f e

pub length-ushr : (bits count : List Literal) (f : Cnf) → length bits ≡ 32 → length (ushr_word bits count f).0 ≡ 32
length-ushr bits count f e = length-shift Ushr bits count f e
