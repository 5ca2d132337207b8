-- How many of a list of paths nobody could decide, and how that goes with the count of an oracle.
use Rattle.std.specs.Prelude.{ℕ, ◌+◌, ◌-◌, ◌^◌, ◌<◌, ◌≤◌, Bool, true, false, ◌||◌, List, count_by}
use Rattle.std.specs.List.{list_any}
use Rattle.kb_picture.specs.declared.path.Leaf.{Leaf}
use Rattle.kb_picture.specs.declared.path.Leaf.TheVariants.{Ended as EndedLeaf, Cut, Undecided, Open}
use Rattle.kb_picture.specs.declared.path.Path.{Path}
use Rattle.kb_drive.specs.Covers.{is_open}

abbrev pub is_undecided : Leaf → Bool
is_undecided (EndedLeaf ended) = false
is_undecided (Cut bound input) = false
is_undecided (Undecided log) = true
is_undecided Open = false

abbrev pub undecided_count : List Path → ℕ
undecided_count listed = count_by (λ (path : Path). is_undecided path.leaf) listed

-- some path is undecided or open, so that the answer is partial
abbrev pub is_partial : List Path → Bool
is_partial listed = list_any (λ (path : Path). is_undecided path.leaf || is_open path.leaf) listed

-- A count that stops at the last value of a u64 rose by so many at least; of one that stands there nothing is said.
abbrev pub RoseBy : ℕ → ℕ → ℕ → Type 0
RoseBy n before now = now < 2 ^ 64 - 1 → before + n ≤ now
