-- Tables of marks, a row for each number, by which what stands above what is found (Warshall, 1962).
use Rattle.std.specs.Prelude.{◌≡◌, ℕ, ◌<◌, Bool, true, false, ◌&&◌, ◌||◌, List, [], length, slice_index_or, ◌↔◌}
use Rattle.kb_order.specs.Order.{IsDirectlyAbove, IsStrictlyAbove}

-- the mark at a row and a place in it; none outside
abbrev pub mark_at : List (List Bool) → ℕ → ℕ → Bool
mark_at table low high = slice_index_or (slice_index_or table low []) high false

-- as many rows, and as many marks in each
pub record IsSquare (size : ℕ) (table : List (List Bool)) : Type 0 where
  pub rows : length table ≡ size
  pub each : (low : ℕ) → low < size → length (slice_index_or table low []) ≡ size

-- the marks say what stands strictly above what
pub record IsTable (direct : List (List ℕ)) (table : List (List Bool)) : Type 0 where
  pub square : IsSquare (length direct) table
  pub true_where : (low high : ℕ) → mark_at table low high ≡ true ↔ IsStrictlyAbove direct low high

-- a mark of a row after it is joined with another, where it marks `middle`
abbrev pub joined_row : List Bool → ℕ → List Bool → ℕ → Bool
joined_row row middle through high = slice_index_or row high false || (slice_index_or row middle false && slice_index_or through high false)

-- each row that marks `middle` is joined with the row of `middle`
abbrev pub IsJoinedThrough : ℕ → List (List Bool) → List (List Bool) → Type 0
IsJoinedThrough middle old new =
    (low high : ℕ) → mark_at new low high ≡ joined_row (slice_index_or old low []) middle (slice_index_or old middle []) high

-- marks that include the direct ones, and only what stands strictly above; and what is reached in two marks by way of a
-- number below `size` is marked
pub record IsClosedBelow (direct : List (List ℕ)) (size : ℕ) (table : List (List Bool)) : Type 0 where
  pub sound : (low high : ℕ) → mark_at table low high ≡ true → IsStrictlyAbove direct low high
  pub includes : (low high : ℕ) → IsDirectlyAbove direct low high → mark_at table low high ≡ true
  pub closed : (middle : ℕ) → middle < size → (low high : ℕ)
      → mark_at table low middle ≡ true → mark_at table middle high ≡ true → mark_at table low high ≡ true
