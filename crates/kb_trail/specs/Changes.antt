-- Changes of cells and their trail, one after the other.
use Rattle.std.specs.Prelude.{◌≡◌, ℕ, ◌<◌, ◌≤◌, List, [], ◌∷◌, length, take, slice_set}
use Rattle.kb_trail.specs.Trail.{Reaches, undone, with_entry}

-- cells with their trail
pub record Trailed (T : Type 0) : Type 0 where
  pub trail : List (ℕ × T)
  pub cells : List T

-- a change: a cell is set, or all is undone to a mark
pub data Change (T : Type 0) : Type 0 where
  Set : ℕ → T → Change T
  UndoTo : ℕ → Change T

-- what a change leaves
abbrev pub changed : {T : Type 0} → Trailed T → Change T → Trailed T
changed before (Set place value) = record { trail = with_entry before.trail before.cells place value; cells = slice_set before.cells place value }
changed before (UndoTo mark) = record { trail = take mark before.trail; cells = undone before.trail before.cells mark }

-- a change that may be made, and that undoes nothing below a mark: a place that is set is one of the cells, and nothing is undone
-- to a mark above the present one
abbrev pub MayBe : {T : Type 0} → ℕ → Trailed T → Change T → Type 0
MayBe low before (Set place value) = place < length before.cells
MayBe low before (UndoTo mark) = (low ≤ mark) × (mark ≤ length before.trail)

-- and changes that may be made in this order
abbrev pub MayChange : {T : Type 0} → ℕ → Trailed T → List (Change T) → Type 0
MayChange low before [] = Unit {0}
MayChange low before (change ∷ changes) = MayBe low before change × MayChange low (changed before change) changes

-- Each mark up to one leads from the cells as they are after some changes to the cells to which it led before them; where it is
-- the last mark before the changes, these are the cells as they were. The trail below the mark is the same, so undoing to it makes
-- that trail again; and if the trail reached no place past the cells it does not now.
pub record LeadsBack {T : Type 0} (low : ℕ) (before after : Trailed T) : Type 0 where
  pub cells : low ≡ length before.trail → undone after.trail after.cells low ≡ before.cells
  pub marks : (mark : ℕ) → mark ≤ low → undone after.trail after.cells mark ≡ undone before.trail before.cells mark
  pub there : low ≤ length after.trail
  pub front : take low after.trail ≡ take low before.trail
  pub count : length after.cells ≡ length before.cells
  pub places : Reaches before.cells before.trail → Reaches after.cells after.trail
