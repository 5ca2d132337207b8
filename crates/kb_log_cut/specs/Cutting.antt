-- A log without the entries that its last one does not need; the others have new numbers.
use Rattle.std.specs.Prelude.{◌≡◌, ℕ, ◌+◌, ◌-◌, ◌<◌, nat_lt, Bool, true, false, cond, zero, suc, List, [], ◌∷◌, ◌++◌, length, map, slice_index_or}
use Rattle.kb_chain.specs.Needed.{IsNeeded}
use Rattle.kb_chain.specs.declared.log.Chain.{Chain}

-- how many of the first marks are set
abbrev pub marked_before : List Bool → ℕ → ℕ
marked_before marks zero = 0
marked_before marks (suc i) = marked_before marks i + cond (slice_index_or marks i false) 1 0

-- which of the entries behind the `first` clauses of a formula stay
pub record Marking : Type 0 where
  pub first : ℕ
  pub marks : List Bool

-- the number of a clause where only the marked entries stand behind the formula
abbrev pub number_among : Marking → ℕ → ℕ
number_among m number = cond (nat_lt number m.first) number (m.first + marked_before m.marks (number - m.first))

-- a chain whose clauses have other numbers
abbrev pub step_with : (ℕ → ℕ) → ℕ × ℕ → ℕ × ℕ
step_with number step = (step.0, number step.1)

abbrev pub renumbered : (ℕ → ℕ) → Chain → Chain
renumbered number chain = record { start = number chain.start; steps = map (step_with number) chain.steps }

-- the marked ones of these entries, of which the first has the number i
abbrev pub marked_entries : Marking → ℕ → List Chain → List Chain
marked_entries m i [] = []
marked_entries m i (entry ∷ entries) =
    cond (slice_index_or m.marks i false) (renumbered (number_among m) entry ∷ marked_entries m (suc i) entries) (marked_entries m (suc i) entries)

-- the numbers of the first entries, as far as they are marked, and of the marked ones that come next
abbrev pub numbers_before : Marking → ℕ → List ℕ
numbers_before m zero = []
numbers_before m (suc i) = numbers_before m i ++ (m.first + marked_before m.marks i) ∷ []

-- the entries that the last one needs, and it, each with the numbers that it and the others have now
pub record IsCut (first : ℕ) (entries cut : List Chain) : Type 0 where
  pub marks : List Bool
  pub table : length marks ≡ length entries
  pub needed : (i : ℕ) → i < length entries → IsNeeded first entries ((first + (length entries - 1)) ∷ []) (first + i) → slice_index_or marks i false ≡ true
  pub only : (i : ℕ) → slice_index_or marks i false ≡ true → IsNeeded first entries ((first + (length entries - 1)) ∷ []) (first + i)
  pub shape : cut ≡ marked_entries (record { first = first; marks = marks }) 0 entries
