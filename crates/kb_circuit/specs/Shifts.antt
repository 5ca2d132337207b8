-- Shifts by a barrel of five stages, one for each of the low five bits of the count.
use Rattle.std.specs.Prelude.{ℕ, ◌-◌, List, ◌++◌, length, take, drop, slice_index_or, replicate}
use Rattle.kb_chain.specs.Literal.{Literal}
use Rattle.kb_circuit.specs.Circuit.{Circuit, ◌>>=◌, falsity}
use Rattle.kb_circuit.specs.Words.{bitwise}
use Rattle.kb_circuit.specs.declared.gate.Gate.TheVariants.{Mux}
use Rattle.kb_circuit.specs.declared.shift.Shift.{Shift}
use Rattle.kb_circuit.specs.declared.shift.Shift.TheVariants.{Shl, Shr, Ushr}

-- bits moved by n places, with what comes in at the other end
abbrev pub moved_up : {A : Type 0} → A → ℕ → List A → List A
moved_up fill n bits = replicate n fill ++ take (length bits - n) bits

abbrev pub moved_down : {A : Type 0} → A → ℕ → List A → List A
moved_down fill n bits = drop n bits ++ replicate n fill

abbrev pub last_bit : {A : Type 0} → A → List A → A
last_bit none bits = slice_index_or bits (length bits - 1) none

abbrev pub moved : Shift → ℕ → List Literal → List Literal
moved Shl n bits = moved_up falsity n bits
moved Shr n bits = moved_down (last_bit falsity bits) n bits
moved Ushr n bits = moved_down falsity n bits

-- moves the bits by n places where the literal is true
unfoldable pub stage : Shift → ℕ → Literal → List Literal → Circuit (List Literal)
stage shift n by bits = bitwise (Mux by) (moved shift n bits) bits

unfoldable pub shift_word : Shift → List Literal → List Literal → Circuit (List Literal)
shift_word shift bits count = do
  one ← stage shift 1 (slice_index_or count 0 falsity) bits
  two ← stage shift 2 (slice_index_or count 1 falsity) one
  four ← stage shift 4 (slice_index_or count 2 falsity) two
  eight ← stage shift 8 (slice_index_or count 3 falsity) four
  stage shift 16 (slice_index_or count 4 falsity) eight

abbrev pub shl_word : List Literal → List Literal → Circuit (List Literal)
shl_word bits count = shift_word Shl bits count

abbrev pub shr_word : List Literal → List Literal → Circuit (List Literal)
shr_word bits count = shift_word Shr bits count

abbrev pub ushr_word : List Literal → List Literal → Circuit (List Literal)
ushr_word bits count = shift_word Ushr bits count
