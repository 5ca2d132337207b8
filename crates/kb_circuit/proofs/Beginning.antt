-- Circuits keep the first clause, so that what comes out of one is a circuit again.
use Rattle.std.proofs.Common.{ℕ, ◌≤◌, ℤ, List, [], ◌∷◌, arith}
use Rattle.kb_chain.specs.Literal.{Literal, negated}
use Rattle.kb_chain.specs.Cnf.{Cnf}
use Rattle.kb_circuit.specs.Circuit.{Circuit, truth, falsity, with_variable, with_clause, with_clauses, BeginsTrue, IsCircuit, next_literal}
use Rattle.kb_circuit.specs.Gates.{and_clauses, xor_clauses, and_gate, xor_gate, or_gate, mux_gate, masked_mux_gate, gate_of, full_adder}
use Rattle.kb_circuit.specs.Words.{negated_bits, sign_negated, false_bits, bitwise, and_word, or_word, xor_word, plus, sums, add_word, sub_word, neg_word, equal_from, equal, eq_word, below, ult_word, lt_word}
use Rattle.kb_circuit.specs.Shifts.{moved, stage, shift_word, shl_word, shr_word, ushr_word}
use Rattle.kb_circuit.specs.declared.gate.Gate.{Gate}
use Rattle.kb_circuit.specs.declared.gate.Gate.TheVariants.{And, Or, Xor, Mux, MaskedMux}
use Rattle.kb_circuit.specs.declared.shift.Shift.{Shift}
use Rattle.kb_circuit.specs.declared.shift.Shift.TheVariants.{Shl, Shr, Ushr}
use Rattle.kb_circuit.specs.Meaning.{Computes}
use Rattle.kb_circuit.proofs.Formulas.{begins-push}

abbrev pub Keeps : {A : Type 0} → Circuit A → Type 0
Keeps c = (f : Cnf) → BeginsTrue f.clauses → BeginsTrue (c f).1.clauses

keeps-clauses : (f : Cnf) (cs : List (List Literal)) → BeginsTrue f.clauses → BeginsTrue (with_clauses f cs).clauses
keeps-clauses f [] h = h
keeps-clauses f (c ∷ cs) h = keeps-clauses (with_clause f c) cs (begins-push f.clauses _ h)

keeps-and : (a b : Literal) → Keeps (and_gate a b)
unfolding and_gate
keeps-and a b f h = keeps-clauses (with_variable f) (and_clauses a b (next_literal f)) h

pub keeps-xor : (a b : Literal) → Keeps (xor_gate a b)
unfolding xor_gate
keeps-xor a b f h = keeps-clauses (with_variable f) (xor_clauses a b (next_literal f)) h

pub keeps-or : (a b : Literal) → Keeps (or_gate a b)
unfolding or_gate
keeps-or a b f h = keeps-and (negated a) (negated b) f h

keeps-mux : (s a b : Literal) → Keeps (mux_gate s a b)
unfolding mux_gate
keeps-mux s a b f h =
    let chosen = and_gate s a f in
    let other = and_gate (negated s) b chosen.1 in
    keeps-or chosen.0 other.0 other.1 (keeps-and (negated s) b chosen.1 (keeps-and s a f h))

keeps-masked : (m s a b : Literal) → Keeps (masked_mux_gate m s a b)
unfolding masked_mux_gate
keeps-masked m s a b f h = let chosen = mux_gate s a b f in keeps-and m chosen.0 chosen.1 (keeps-mux s a b f h)

keeps-gate : (gate : Gate) (a b : Literal) → Keeps (gate_of gate a b)
keeps-gate And a b f h = keeps-and a b f h
keeps-gate Or a b f h = keeps-or a b f h
keeps-gate Xor a b f h = keeps-xor a b f h
keeps-gate (Mux s) a b f h = keeps-mux s a b f h
keeps-gate (MaskedMux m s) a b f h = keeps-masked m s a b f h

keeps-adder : (a b c : Literal) → Keeps (full_adder a b c)
unfolding full_adder
keeps-adder a b c f h =
    let x = xor_gate a b f in
    let sum = xor_gate x.0 c x.1 in
    let p = and_gate a b sum.1 in
    let q = and_gate x.0 c p.1 in
    keeps-or p.0 q.0 q.1 (keeps-and x.0 c p.1 (keeps-and a b sum.1 (keeps-xor x.0 c x.1 (keeps-xor a b f h))))

pub keeps-bitwise : (gate : Gate) (left right : List Literal) → Keeps (bitwise gate left right)
unfolding bitwise
keeps-bitwise gate [] right f h = h
keeps-bitwise gate (a ∷ left) [] f h = h
keeps-bitwise gate (a ∷ left) (b ∷ right) f h = keeps-bitwise gate left right (gate_of gate a b f).1 (keeps-gate gate a b f h)

pub keeps-and_word : (left right : List Literal) → Keeps (and_word left right)
keeps-and_word left right f h = keeps-bitwise And left right f h

pub keeps-or_word : (left right : List Literal) → Keeps (or_word left right)
keeps-or_word left right f h = keeps-bitwise Or left right f h

pub keeps-xor_word : (left right : List Literal) → Keeps (xor_word left right)
keeps-xor_word left right f h = keeps-bitwise Xor left right f h

pub keeps-plus : (left right : List Literal) (c : Literal) → Keeps (plus left right c)
unfolding plus
keeps-plus [] right c f h = h
keeps-plus (a ∷ left) [] c f h = h
keeps-plus (a ∷ left) (b ∷ right) c f h =
    let one = full_adder a b c f in keeps-plus left right one.0.1 one.1 (keeps-adder a b c f h)

pub keeps-add : (left right : List Literal) → Keeps (add_word left right)
unfolding add_word sums
keeps-add left right f h = keeps-plus left right falsity f h

pub keeps-sub : (left right : List Literal) → Keeps (sub_word left right)
unfolding sub_word sums
keeps-sub left right f h = keeps-plus left (negated_bits right) truth f h

pub keeps-neg : (of : List Literal) → Keeps (neg_word of)
unfolding neg_word sums
keeps-neg of f h = keeps-plus false_bits (negated_bits of) truth f h

keeps-equal_from : (e : Literal) (left right : List Literal) → Keeps (equal_from e left right)
unfolding equal_from
keeps-equal_from e [] right f h = h
keeps-equal_from e (a ∷ left) [] f h = h
keeps-equal_from e (a ∷ left) (b ∷ right) f h =
    let differ = xor_gate a b f in
    let both = and_gate e (negated differ.0) differ.1 in
    keeps-equal_from both.0 left right both.1 (keeps-and e (negated differ.0) differ.1 (keeps-xor a b f h))

keeps-equal : (left right : List Literal) → Keeps (equal left right)
unfolding equal
keeps-equal [] right f h = h
keeps-equal (a ∷ left) [] f h = h
keeps-equal (a ∷ left) (b ∷ right) f h =
    let differ = xor_gate a b f in keeps-equal_from (negated differ.0) left right differ.1 (keeps-xor a b f h)

pub keeps-eq : (left right : List Literal) → Keeps (eq_word left right)
unfolding eq_word
keeps-eq left right f h = keeps-equal left right f h

pub keeps-ult : (left right : List Literal) → Keeps (ult_word left right)
unfolding ult_word below
keeps-ult left right f h = keeps-plus left (negated_bits right) truth f h

pub keeps-lt : (left right : List Literal) → Keeps (lt_word left right)
unfolding lt_word below
keeps-lt left right f h = keeps-plus (sign_negated left) (negated_bits (sign_negated right)) truth f h

keeps-stage : (shift : Shift) (n : ℕ) (by : Literal) (bits : List Literal) → Keeps (stage shift n by bits)
unfolding stage
keeps-stage shift n by bits f h = keeps-bitwise (Mux by) (moved shift n bits) bits f h

keeps-shift : (shift : Shift) (bits count : List Literal) → Keeps (shift_word shift bits count)
unfolding shift_word
keeps-shift shift bits count f h =
    keeps-stage shift 16 _ _ _ (keeps-stage shift 8 _ _ _ (keeps-stage shift 4 _ _ _ (keeps-stage shift 2 _ _ _ (keeps-stage shift 1 _ bits f h))))

pub keeps-shl : (bits count : List Literal) → Keeps (shl_word bits count)
keeps-shl bits count f h = keeps-shift Shl bits count f h

pub keeps-shr : (bits count : List Literal) → Keeps (shr_word bits count)
keeps-shr bits count f h = keeps-shift Shr bits count f h

pub keeps-ushr : (bits count : List Literal) → Keeps (ushr_word bits count)
keeps-ushr bits count f h = keeps-shift Ushr bits count f h

-- what an operation has been put behind is a circuit
pub circuit-computed : (op : ℤ → ℤ → ℤ) (left right : List Literal) (f : Cnf) (out : List Literal) (g : Cnf) → IsCircuit f → Computes op left right f out g → BeginsTrue g.clauses → IsCircuit g
circuit-computed op left right f out g h c first =
    let low : 1 ≤ f.vars = h.variable in
    let up : f.vars ≤ g.vars = c.defines.grows in
    record { variable = omega arith; first = first; within = c.defines.within h.within }
