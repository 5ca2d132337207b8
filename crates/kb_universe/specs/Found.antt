-- Methods that are found, with a mark for each method of a world.
use Rattle.std.specs.Prelude.{◌≡◌, ℕ, Bool, true, false, ◌==◌, List, [], ◌∷◌, ◌++◌, length, sum_by, slice_index_or, if◌then◌else◌}
use Rattle.std.specs.List.{list_any}

-- the list with a number behind it, unless it has it
abbrev pub with_new : List ℕ → ℕ → List ℕ
with_new found number = if list_any (λ other. other == number) found then found else found ++ number ∷ []

-- the numbers of methods, of so many methods in all
pub record FoundMethods : Type 0 where
  pub all : ℕ
  pub numbers : List ℕ

-- what a mark counts
abbrev pub weight : Bool → ℕ
weight true = 1
weight false = 0

-- Exactly the marks of these numbers are set, and there are as many marks as numbers.
pub record AreMarked (numbers : List ℕ) (marks : List Bool) : Type 0 where
  pub same : (number : ℕ) → slice_index_or marks number false ≡ list_any (λ other. other == number) numbers
  pub many : sum_by weight marks ≡ length numbers
