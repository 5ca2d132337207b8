-- The gates, each with its clauses in order.
use Rattle.std.specs.Prelude.{List, [], ◌∷◌}
use Rattle.kb_chain.specs.Literal.{Literal, negated}
use Rattle.kb_circuit.specs.Circuit.{Circuit, ◌>>=◌, done, with_variable, next_literal, with_clauses}
use Rattle.kb_circuit.specs.declared.gate.Gate.{Gate}
use Rattle.kb_circuit.specs.declared.gate.Gate.TheVariants.{And, Or, Xor, Mux, MaskedMux}

-- a new variable, with clauses that speak of it
abbrev pub defined : (Literal → List (List Literal)) → Circuit Literal
defined clauses f = (next_literal f, with_clauses (with_variable f) (clauses (next_literal f)))

abbrev pub and_clauses : Literal → Literal → Literal → List (List Literal)
and_clauses a b g = (negated g ∷ a ∷ []) ∷ (negated g ∷ b ∷ []) ∷ (g ∷ negated a ∷ negated b ∷ []) ∷ []

abbrev pub xor_clauses : Literal → Literal → Literal → List (List Literal)
xor_clauses a b g =
    (negated g ∷ a ∷ b ∷ []) ∷ (negated g ∷ negated a ∷ negated b ∷ []) ∷ (g ∷ negated a ∷ b ∷ []) ∷ (g ∷ a ∷ negated b ∷ []) ∷ []

unfoldable pub and_gate : Literal → Literal → Circuit Literal
and_gate a b = defined (and_clauses a b)

unfoldable pub xor_gate : Literal → Literal → Circuit Literal
xor_gate a b = defined (xor_clauses a b)

unfoldable pub or_gate : Literal → Literal → Circuit Literal
or_gate a b = do
  neither ← and_gate (negated a) (negated b)
  done (negated neither)

-- a where s is true, else b
unfoldable pub mux_gate : Literal → Literal → Literal → Circuit Literal
mux_gate s a b = do
  chosen ← and_gate s a
  other ← and_gate (negated s) b
  or_gate chosen other

-- false where m is false
unfoldable pub masked_mux_gate : Literal → Literal → Literal → Literal → Circuit Literal
masked_mux_gate m s a b = do
  chosen ← mux_gate s a b
  and_gate m chosen

abbrev pub gate_of : Gate → Literal → Literal → Circuit Literal
gate_of And = and_gate
gate_of Or = or_gate
gate_of Xor = xor_gate
gate_of (Mux s) = mux_gate s
gate_of (MaskedMux m s) = masked_mux_gate m s

-- the sum of three bits and its carry
unfoldable pub full_adder : Literal → Literal → Literal → Circuit (Literal × Literal)
full_adder a b c = do
  x ← xor_gate a b
  sum ← xor_gate x c
  p ← and_gate a b
  q ← and_gate x c
  carry ← or_gate p q
  done (sum, carry)
