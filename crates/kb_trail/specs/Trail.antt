-- Trails: the places of some cells with the values that were replaced there, the first change's first.
use Rattle.std.specs.Prelude.{ℕ, ◌<◌, ◌==◌, List, [], ◌∷◌, ◌++◌, length, drop, All, Option, Some, slice_get, slice_index_or, slice_set, if◌then◌else◌}

-- the trail with what stands at a place, which is one of the cells, or else this value
abbrev pub with_entry : {T : Type 0} → List (ℕ × T) → List T → ℕ → T → List (ℕ × T)
with_entry trail cells place value = trail ++ (place, slice_index_or cells place value) ∷ []

-- the cells with the value of each entry put back at its place, the last entry's first
abbrev pub put_back : {T : Type 0} → List (ℕ × T) → List T → List T
put_back [] cells = cells
put_back (entry ∷ entries) cells = slice_set (put_back entries cells) entry.0 entry.1

-- the cells as they were at a mark, which is how long the trail was then: with the entries above it put back
abbrev pub undone : {T : Type 0} → List (ℕ × T) → List T → ℕ → List T
undone trail cells mark = put_back (drop mark trail) cells

-- the place of each entry is one of the cells
abbrev pub Reaches : {T : Type 0} → List T → List (ℕ × T) → Type 0
Reaches cells trail = All (λ entry. entry.0 < length cells) trail

-- what stood at a place before the changes of these entries: what the first of them at that place replaced
abbrev pub value_before : {T : Type 0} → List (ℕ × T) → List T → ℕ → Option T
value_before [] cells place = slice_get cells place
value_before (entry ∷ entries) cells place = if entry.0 == place then Some entry.1 else value_before entries cells place
