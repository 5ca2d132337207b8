-- What stands above what by any number of steps, and the circles among it. Own rules: a list says for each number, by its
-- place, which numbers stand directly above it, in any order and some perhaps more than once; the rest is the transitive
-- closure of that relation.
use Rattle.std.specs.Prelude.{◌≡◌, ℕ, ◌<◌, ◌==◌, Bool, true, false, List, [], ◌∷◌, length, slice_index_or, ◌+◌, ◌↔◌, Option, Some, None, cond}
use Rattle.std.specs.List.{list_any}

-- whether a number stands in a list
abbrev pub stands : ℕ → List ℕ → Bool
stands number numbers = list_any (λ n. n == number) numbers

-- `high` stands directly above `low`: in the item of `low`. A number that has no item has nothing above it
abbrev pub IsDirectlyAbove : List (List ℕ) → ℕ → ℕ → Type 0
IsDirectlyAbove direct low high = stands high (slice_index_or direct low []) ≡ true

-- what stands directly above something has an item of its own
abbrev pub IsComplete : List (List ℕ) → Type 0
IsComplete direct = (low high : ℕ) → IsDirectlyAbove direct low high → high < length direct

-- a path goes from `low` to `high`, each of its numbers directly above the one before it
abbrev pub Climbs : List (List ℕ) → ℕ → List ℕ → ℕ → Type 0
Climbs direct low [] high = low ≡ high
Climbs direct low (next ∷ rest) high = IsDirectlyAbove direct low next × Climbs direct next rest high

-- `high` stands above `low`, in any number of steps; each number stands above itself, in none
abbrev pub IsAbove : List (List ℕ) → ℕ → ℕ → Type 0
IsAbove direct low high = (path : List ℕ) × Climbs direct low path high

-- the same in one step or more
abbrev pub IsStrictlyAbove : List (List ℕ) → ℕ → ℕ → Type 0
IsStrictlyAbove direct low high = (next : ℕ) × IsDirectlyAbove direct low next × IsAbove direct next high

-- a way up from a number leads back to it. A number from which one only gets onto a circle does not stand on it
abbrev pub StandsOnCircle : List (List ℕ) → ℕ → Type 0
StandsOnCircle direct low = IsStrictlyAbove direct low low

abbrev pub HasNoCircle : List (List ℕ) → Type 0
HasNoCircle direct = (low : ℕ) → StandsOnCircle direct low → ⊥

-- the least number that stands on a circle, or none where there is no circle
abbrev pub IsFirstOnCircle : List (List ℕ) → Option ℕ → Type 0
IsFirstOnCircle direct None = HasNoCircle direct
IsFirstOnCircle direct (Some first) =
    StandsOnCircle direct first × ((earlier : ℕ) → earlier < first → StandsOnCircle direct earlier → ⊥)

-- a mark for each number: whether it stands strictly above `low`
pub record AreMarksAbove (direct : List (List ℕ)) (low : ℕ) (marks : List Bool) : Type 0 where
  pub all : length marks ≡ length direct
  pub true_where : (high : ℕ) → slice_index_or marks high false ≡ true ↔ IsStrictlyAbove direct low high

-- how many marks are set
abbrev pub set_marks : List Bool → ℕ
set_marks [] = 0
set_marks (mark ∷ marks) = cond mark 1 0 + set_marks marks

-- how many numbers stand strictly above `low`
abbrev pub IsRank : List (List ℕ) → ℕ → ℕ → Type 0
IsRank direct low rank = (marks : List Bool) × AreMarksAbove direct low marks × (rank ≡ set_marks marks)
