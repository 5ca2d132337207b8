-- Multiplication as shifts and sums, row by row (Kroening and Strichman, Decision Procedures, second edition, section 6.2 on
-- flattening). The words are of any width; those of ints have 32 bits.
use Rattle.std.specs.Prelude.{ℕ, ◌+◌, ◌-◌, List, [], ◌∷◌, ◌++◌, length, take, replicate}
use Rattle.kb_chain.specs.Literal.{Literal}
use Rattle.kb_circuit.specs.Circuit.{Circuit, ◌>>=◌, done, falsity}
use Rattle.kb_circuit.specs.Words.{and_word, add_word}

-- the row of a place j: false in the bits below j, and in bit i the gate of bit i - j and of the row's own bit b
unfoldable pub row_word : ℕ → List Literal → Literal → Circuit (List Literal)
row_word j left b = do
  bits ← and_word (take (length left - j) left) (replicate (length left - j) b)
  done (replicate j falsity ++ bits)

-- the sum so far and the row of the next place
unfoldable pub with_row : ℕ → List Literal → List Literal → Literal → Circuit (List Literal)
with_row j sum left b = do
  row ← row_word j left b
  add_word sum row

-- a row for each bit from place j on
unfoldable pub with_rows : ℕ → List Literal → List Literal → List Literal → Circuit (List Literal)
with_rows j sum left [] = done sum
with_rows j sum left (b ∷ right) = do
  more ← with_row j sum left b
  with_rows (j + 1) more left right

-- the first row is the first sum
unfoldable pub mul_word : List Literal → List Literal → Circuit (List Literal)
mul_word left [] = done (replicate (length left) falsity)
mul_word left (b ∷ right) = do
  first ← row_word 0 left b
  with_rows 1 first left right
