-- The clauses that a search stores, in one table.
use Rattle.std.specs.Prelude.{◌≡◌, ℕ, ◌<◌, ◌≤◌, ◌-◌, ◌^◌, Bool, true, List, length, map, take, drop, Some, slice_get}
use Rattle.kb_chain.specs.Literal.{Literal, has}
use Rattle.kb_propagate.specs.declared.span.Span.{Span}
use Rattle.kb_propagate.specs.declared.clauses.Slot.{Slot}

-- what stands in a span of a flat table
abbrev pub row_of : {X : Type 0} → List X → Span → List X
row_of flat span = take (span.end - span.start) (drop span.start flat)

-- a clause as it is stored: its literals, and whether it is watched still
pub record StoredClause : Type 0 where
  pub literals : List Literal
  pub awake : Bool

abbrev pub stored_at : List Literal → Slot → StoredClause
stored_at flat slot = record { literals = row_of flat slot.span; awake = slot.awake }

abbrev pub stored_of : List Literal → List Slot → List StoredClause
stored_of flat slots = map (stored_at flat) slots

abbrev pub rows_of : List StoredClause → List (List Literal)
rows_of clauses = map (λ (c : StoredClause). c.literals) clauses

abbrev pub awake_clause : List Literal → StoredClause
awake_clause row = record { literals = row; awake = true }

-- each span ends in the flat table
abbrev pub EndWithin : List Literal → List Slot → Type 0
EndWithin flat slots = (k : ℕ) (slot : Slot) → slice_get slots k ≡ Some slot → (slot.span.start ≤ slot.span.end) × (slot.span.end ≤ length flat)

-- the literals of a clause stand behind those of the clauses before it
abbrev pub AreApart : List Slot → Type 0
AreApart slots = (j k : ℕ) (a b : Slot) → j < k → slice_get slots j ≡ Some a → slice_get slots k ≡ Some b → a.span.end ≤ b.span.start

-- the literals have the variables that a literal can have

abbrev pub IsNamed : List Literal → Type 0
IsNamed row = (l : Literal) → has row l ≡ true → (0 < l.variable) × (l.variable < 2 ^ 31)

abbrev pub AreNamed : List (List Literal) → Type 0
AreNamed rows = (k : ℕ) (row : List Literal) → slice_get rows k ≡ Some row → IsNamed row

-- the rows have the same literals, in any order
pub record AreReordered (old new : List (List Literal)) : Type 0 where
  pub count : length new ≡ length old
  pub each : (k : ℕ) (row later : List Literal) → slice_get old k ≡ Some row → slice_get new k ≡ Some later → (l : Literal) → has later l ≡ has row l
