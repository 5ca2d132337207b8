-- Division by long division in base 2, the highest bit first, and from it quotient and remainder with their signs.
use Rattle.std.specs.Prelude.{◌-◌, List, [], ◌∷◌, length, take, replicate}
use Rattle.kb_chain.specs.Literal.{Literal}
use Rattle.kb_circuit.specs.Circuit.{Circuit, ◌>>=◌, done, truth, falsity}
use Rattle.kb_circuit.specs.Gates.{xor_gate, or_gate}
use Rattle.kb_circuit.specs.Words.{negated_bits, bitwise, plus, neg_word}
use Rattle.kb_circuit.specs.Shifts.{last_bit}
use Rattle.kb_circuit.specs.declared.gate.Gate.TheVariants.{Mux, MaskedMux}

-- the literal that is true of a negative word
abbrev pub sign_of : List Literal → Literal
sign_of bits = last_bit falsity bits

-- the word, or its negative where it has its sign; that of the least int is the word itself, read without sign
unfoldable pub absolute : List Literal → Circuit (List Literal)
absolute of = do
  negative ← neg_word of
  bitwise (Mux (sign_of of)) negative of

-- the next bit of the dividend below the bits of the remainder, whose highest is dropped
abbrev pub brought_down : Literal → List Literal → List Literal
brought_down next remainder = next ∷ take (length remainder - 1) remainder

-- one turn: the divisor is taken away where it fits, which is where the difference has a carry. Gives the quotient's bit and
-- the next remainder
unfoldable pub division_turn : List Literal → Literal → List Literal → Circuit (Literal × List Literal)
division_turn divisor next remainder = do
  difference ← plus (brought_down next remainder) (negated_bits divisor) truth
  left ← bitwise (Mux difference.1) difference.0 (brought_down next remainder)
  done (difference.1, left)

-- the quotient and the remainder of words without sign: first those of the dividend's higher bits, and then one more turn
unfoldable pub long_division : List Literal → List Literal → Circuit (List Literal × List Literal)
long_division [] divisor = done ([], replicate (length divisor) falsity)
long_division (next ∷ higher) divisor = do
  above ← long_division higher divisor
  turn ← division_turn divisor next above.1
  done (turn.0 ∷ above.0, turn.1)

-- the quotient and the remainder of the absolute values
unfoldable pub absolute_division : List Literal → List Literal → Circuit (List Literal × List Literal)
absolute_division left right = do
  dividend ← absolute left
  divisor ← absolute right
  long_division dividend divisor

-- whether some bit is true, from the lowest upwards
unfoldable pub any_from : Literal → List Literal → Circuit Literal
any_from found [] = done found
any_from found (b ∷ bits) = do
  either ← or_gate found b
  any_from either bits

unfoldable pub any_bit : List Literal → Circuit Literal
any_bit [] = done falsity
any_bit (b ∷ bits) = any_from b bits

-- the quotient is negative where the signs differ, and 0 where the divisor is
unfoldable pub div_word : List Literal → List Literal → Circuit (List Literal)
div_word left right = do
  division ← absolute_division left right
  differ ← xor_gate (sign_of left) (sign_of right)
  negative ← neg_word division.0
  nonzero ← any_bit right
  bitwise (MaskedMux nonzero differ) negative division.0

-- the remainder has the dividend's sign, and is 0 where the divisor is
unfoldable pub rem_word : List Literal → List Literal → Circuit (List Literal)
rem_word left right = do
  division ← absolute_division left right
  negative ← neg_word division.1
  nonzero ← any_bit right
  bitwise (MaskedMux nonzero (sign_of left)) negative division.1
