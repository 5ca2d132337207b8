-- The clause so far of a chain, kept by marks.
use Rattle.std.specs.Prelude.{◌≡◌, ◌<◌, ℕ, Bool, false, true, List, slice_index_or}
use Rattle.kb_chain.specs.Literal.{Literal, place_of, has}

-- a clause in a table of so many places
pub record Held : Type 0 where
  pub places : ℕ
  pub clause : List Literal

-- whether the table marks a literal
abbrev pub marked : List Bool → Literal → Bool
marked marks l = slice_index_or marks (place_of l) false

-- each marked literal is among those that were touched
abbrev pub AreTouched : List Bool → List Literal → Type 0
AreTouched marks touched = (l : Literal) → marked marks l ≡ true → has touched l ≡ true

-- the literals have places in a table of so many
abbrev pub AreWithin : ℕ → List Literal → Type 0
AreWithin places ls = (l : Literal) → has ls l ≡ true → place_of l < places
