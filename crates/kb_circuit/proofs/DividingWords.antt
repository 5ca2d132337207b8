-- A division keeps the first clause, and gives words of 32 bits.
use Rattle.std.proofs.Common.{◌≡◌, ℕ, suc, ◌-◌, List, [], ◌∷◌, length, refl, sym, ap, ◌∙◌, arith}
use Rattle.std.proofs.lemmas.List.{length-replicate, length-map, length-take}
use Rattle.kb_chain.specs.Literal.{Literal, negated}
use Rattle.kb_chain.specs.Cnf.{Cnf}
use Rattle.kb_circuit.specs.Circuit.{truth, falsity}
use Rattle.kb_circuit.specs.Gates.{xor_gate, or_gate}
use Rattle.kb_circuit.specs.Words.{negated_bits, plus, neg_word}
use Rattle.kb_circuit.specs.Division.{sign_of, absolute, brought_down, division_turn, long_division, absolute_division, any_from, any_bit, div_word, rem_word}
use Rattle.kb_circuit.specs.declared.gate.Gate.TheVariants.{Mux, MaskedMux}
use Rattle.kb_circuit.proofs.Beginning.{Keeps, keeps-xor, keeps-or, keeps-bitwise, keeps-plus, keeps-neg}
use Rattle.kb_circuit.proofs.Lengths.{length-bitwise, length-plus, length-neg}

keeps-absolute : (of : List Literal) → Keeps (absolute of)
unfolding absolute
keeps-absolute of f h = let negative = neg_word of f in keeps-bitwise (Mux (sign_of of)) negative.0 of negative.1 (keeps-neg of f h)

keeps-turn : (divisor : List Literal) (next : Literal) (remainder : List Literal) → Keeps (division_turn divisor next remainder)
unfolding division_turn
keeps-turn divisor next remainder f h =
    let sum = plus (brought_down next remainder) (negated_bits divisor) truth f in
    keeps-bitwise (Mux sum.0.1) sum.0.0 (brought_down next remainder) sum.1 (keeps-plus (brought_down next remainder) (negated_bits divisor) truth f h)

keeps-division : (dividend divisor : List Literal) → Keeps (long_division dividend divisor)
unfolding long_division
keeps-division [] divisor f h = h
keeps-division (next ∷ higher) divisor f h =
    let above = long_division higher divisor f in keeps-turn divisor next above.0.1 above.1 (keeps-division higher divisor f h)

keeps-absolutes : (left right : List Literal) → Keeps (absolute_division left right)
unfolding absolute_division
keeps-absolutes left right f h =
    let dividend = absolute left f in
    let divisor = absolute right dividend.1 in
    keeps-division dividend.0 divisor.0 divisor.1 (keeps-absolute right dividend.1 (keeps-absolute left f h))

keeps-any_from : (found : Literal) (bits : List Literal) → Keeps (any_from found bits)
unfolding any_from
keeps-any_from found [] f h = h
keeps-any_from found (b ∷ bits) f h = let one = or_gate found b f in keeps-any_from one.0 bits one.1 (keeps-or found b f h)

keeps-any : (bits : List Literal) → Keeps (any_bit bits)
unfolding any_bit
keeps-any [] f h = h
keeps-any (b ∷ bits) f h = keeps-any_from b bits f h

pub keeps-div : (left right : List Literal) → Keeps (div_word left right)
unfolding div_word
keeps-div left right f h =
    let division = absolute_division left right f in
    let differ = xor_gate (sign_of left) (sign_of right) division.1 in
    let negative = neg_word division.0.0 differ.1 in
    let nonzero = any_bit right negative.1 in
    keeps-bitwise (MaskedMux nonzero.0 differ.0) negative.0 division.0.0 nonzero.1
    (keeps-any right negative.1 (keeps-neg division.0.0 differ.1 (keeps-xor (sign_of left) (sign_of right) division.1 (keeps-absolutes left right f h))))

pub keeps-rem : (left right : List Literal) → Keeps (rem_word left right)
unfolding rem_word
keeps-rem left right f h =
    let division = absolute_division left right f in
    let negative = neg_word division.0.1 division.1 in
    let nonzero = any_bit right negative.1 in
    keeps-bitwise (MaskedMux nonzero.0 (sign_of left)) negative.0 division.0.1 nonzero.1
    (keeps-any right negative.1 (keeps-neg division.0.1 division.1 (keeps-absolutes left right f h)))

-- ---- widths

length-absolute : (of : List Literal) (f : Cnf) → length of ≡ 32 → length (absolute of f).0 ≡ 32
unfolding absolute
length-absolute of f l =
    let negative = neg_word of f in
    let n : length negative.0 ≡ 32 = length-neg of f l in
    length-bitwise (Mux (sign_of of)) negative.0 of negative.1 (n ∙ sym l) ∙ n

length-turn : (divisor : List Literal) (next : Literal) (remainder : List Literal) (f : Cnf) → length divisor ≡ 32 → length remainder ≡ 32
    → length (division_turn divisor next remainder f).0.1 ≡ 32
unfolding division_turn
length-turn divisor next remainder f d r =
    let longer = brought_down next remainder in
    let l : length longer ≡ 32 = omega (arith, length-take (length remainder - 1) remainder) in
    let sum = plus longer (negated_bits divisor) truth f in
    let s : length sum.0.0 ≡ length longer = length-plus longer (negated_bits divisor) truth f (l ∙ sym (length-map divisor negated ∙ d)) in
    length-bitwise (Mux sum.0.1) sum.0.0 longer sum.1 s ∙ (s ∙ l)

-- the widths of a quotient and a remainder
record Wide (out : (List Literal × List Literal) × Cnf) (width : ℕ) : Type 0 where
  quotient : length out.0.0 ≡ width
  remainder : length out.0.1 ≡ 32

length-division : (dividend divisor : List Literal) (f : Cnf) → length divisor ≡ 32 → Wide (long_division dividend divisor f) (length dividend)
unfolding long_division
length-division [] divisor f d = record { quotient = refl; remainder = length-replicate (length divisor) falsity ∙ d }
length-division (next ∷ higher) divisor f d =
    let above = long_division higher divisor f in
    let a : Wide above (length higher) = length-division higher divisor f d in
    record { quotient = ap suc a.quotient; remainder = length-turn divisor next above.0.1 above.1 d a.remainder }

length-absolutes : (left right : List Literal) (f : Cnf) → length left ≡ 32 → length right ≡ 32 → Wide (absolute_division left right f) 32
unfolding absolute_division
length-absolutes left right f l r =
    let dividend = absolute left f in
    let divisor = absolute right dividend.1 in
    let w = length-division dividend.0 divisor.0 divisor.1 (length-absolute right dividend.1 r) in
    record { quotient = w.quotient ∙ length-absolute left f l; remainder = w.remainder }

pub length-div : (left right : List Literal) (f : Cnf) → length left ≡ 32 → length right ≡ 32 → length (div_word left right f).0 ≡ 32
unfolding div_word
length-div left right f l r =
    let division = absolute_division left right f in
    let w : Wide division 32 = length-absolutes left right f l r in
    let differ = xor_gate (sign_of left) (sign_of right) division.1 in
    let negative = neg_word division.0.0 differ.1 in
    let n : length negative.0 ≡ 32 = length-neg division.0.0 differ.1 w.quotient in
    let nonzero = any_bit right negative.1 in
    length-bitwise (MaskedMux nonzero.0 differ.0) negative.0 division.0.0 nonzero.1 (n ∙ sym w.quotient) ∙ n

pub length-rem : (left right : List Literal) (f : Cnf) → length left ≡ 32 → length right ≡ 32 → length (rem_word left right f).0 ≡ 32
unfolding rem_word
length-rem left right f l r =
    let division = absolute_division left right f in
    let w : Wide division 32 = length-absolutes left right f l r in
    let negative = neg_word division.0.1 division.1 in
    let n : length negative.0 ≡ 32 = length-neg division.0.1 division.1 w.remainder in
    let nonzero = any_bit right negative.1 in
    length-bitwise (MaskedMux nonzero.0 (sign_of left)) negative.0 division.0.1 nonzero.1 (n ∙ sym w.remainder) ∙ n
