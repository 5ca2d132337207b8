-- Circuits over words: lists of literals, the lowest bit first. They are stated for any width; those of ints have 32 bits.
use Rattle.std.specs.Prelude.{ℕ, ◌≤◌, List, [], ◌∷◌, ◌++◌, map, replicate}
use Rattle.kb_chain.specs.Literal.{Literal, negated}
use Rattle.kb_chain.specs.Cnf.{Cnf}
use Rattle.kb_circuit.specs.Circuit.{Circuit, ◌>>=◌, done, truth, falsity}
use Rattle.kb_circuit.specs.Gates.{and_gate, xor_gate, gate_of, full_adder}
use Rattle.kb_circuit.specs.declared.gate.Gate.{Gate}
use Rattle.kb_circuit.specs.declared.gate.Gate.TheVariants.{And, Or, Xor, Mux, MaskedMux}

abbrev pub negated_bits : List Literal → List Literal
negated_bits bits = map negated bits

-- the highest bit negated
abbrev pub sign_negated : List Literal → List Literal
sign_negated [] = []
sign_negated (b ∷ []) = negated b ∷ []
sign_negated (b ∷ c ∷ bits) = b ∷ sign_negated (c ∷ bits)

-- a word of false bits, and one with a comparison's literal as its lowest bit
abbrev pub false_bits : List Literal
false_bits = replicate 32 falsity

abbrev pub truth_bits : Literal → List Literal
truth_bits l = l ∷ replicate 31 falsity

-- a gate for each bit
unfoldable pub bitwise : Gate → List Literal → List Literal → Circuit (List Literal)
bitwise gate [] _ = done []
bitwise gate (a ∷ left) [] = done []
bitwise gate (a ∷ left) (b ∷ right) = do
  bit ← gate_of gate a b
  bits ← bitwise gate left right
  done (bit ∷ bits)

abbrev pub and_word : List Literal → List Literal → Circuit (List Literal)
and_word left right = bitwise And left right

abbrev pub or_word : List Literal → List Literal → Circuit (List Literal)
or_word left right = bitwise Or left right

abbrev pub xor_word : List Literal → List Literal → Circuit (List Literal)
xor_word left right = bitwise Xor left right

-- full adders from the lowest bit upwards, which begin with the carry c: the sums and the last carry
unfoldable pub plus : List Literal → List Literal → Literal → Circuit (List Literal × Literal)
plus [] _ c = done ([], c)
plus (a ∷ left) [] c = done ([], c)
plus (a ∷ left) (b ∷ right) c = do
  bit ← full_adder a b c
  rest ← plus left right bit.1
  done (bit.0 ∷ rest.0, rest.1)

unfoldable pub sums : List Literal → List Literal → Literal → Circuit (List Literal)
sums left right c = do
  both ← plus left right c
  done both.0

unfoldable pub add_word : List Literal → List Literal → Circuit (List Literal)
add_word left right = sums left right falsity

unfoldable pub sub_word : List Literal → List Literal → Circuit (List Literal)
sub_word left right = sums left (negated_bits right) truth

unfoldable pub neg_word : List Literal → Circuit (List Literal)
neg_word of = sums false_bits (negated_bits of) truth

-- whether the bits so far are equal, and all the others too
unfoldable pub equal_from : Literal → List Literal → List Literal → Circuit Literal
equal_from e [] _ = done e
equal_from e (a ∷ left) [] = done e
equal_from e (a ∷ left) (b ∷ right) = do
  differ ← xor_gate a b
  both ← and_gate e (negated differ)
  equal_from both left right

unfoldable pub equal : List Literal → List Literal → Circuit Literal
equal [] _ = done truth
equal (a ∷ left) [] = done truth
equal (a ∷ left) (b ∷ right) = do
  differ ← xor_gate a b
  equal_from (negated differ) left right

unfoldable pub eq_word : List Literal → List Literal → Circuit (List Literal)
eq_word left right = do
  e ← equal left right
  done (truth_bits e)

-- no carry out of the difference: left is below right, both without sign
unfoldable pub below : List Literal → List Literal → Circuit Literal
below left right = do
  both ← plus left (negated_bits right) truth
  done (negated both.1)

unfoldable pub ult_word : List Literal → List Literal → Circuit (List Literal)
ult_word left right = do
  less ← below left right
  done (truth_bits less)

unfoldable pub lt_word : List Literal → List Literal → Circuit (List Literal)
lt_word left right = do
  less ← below (sign_negated left) (sign_negated right)
  done (truth_bits less)

-- a gate's own literals are of the first variables
abbrev pub GateFits : Gate → ℕ → Type 0
GateFits And vars = Unit {0}
GateFits Or vars = Unit {0}
GateFits Xor vars = Unit {0}
GateFits (Mux s) vars = s.variable ≤ vars
GateFits (MaskedMux m s) vars = (m.variable ≤ vars) × (s.variable ≤ vars)

-- what a loop over the bits has so far, in front of what is left to build
abbrev pub in_front : List Literal → List Literal × Cnf → List Literal × Cnf
in_front bits out = (bits ++ out.0, out.1)

abbrev pub sums_in_front : List Literal → (List Literal × Literal) × Cnf → (List Literal × Literal) × Cnf
sums_in_front bits out = ((bits ++ out.0.0, out.0.1), out.1)
