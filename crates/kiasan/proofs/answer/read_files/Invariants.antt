use Rattle.std.proofs.Common.{◌≡◌, ◌≤◌, ◌↔◌, ℕ, List, take}
use Rattle.kiasan.specs.Answers.{AreRead}
use Rattle.kiasan.proofs.answer.read_files.Given as goal

abbrev pub invariant-loop-name : goal.invariant-loop-name
invariant-loop-name g l =
    AreRead l.limit (g.S.Shelf.holds l.fn.shelf) (take l.name-index l.names) l.read
    × ((other : List ℕ) → g.S.Shelf.holds l.shelf other ≡ g.S.Shelf.holds l.fn.shelf other)
    × (g.S.Shelf.faults l.fn.shelf ≤ g.S.Shelf.faults l.shelf)
    × ((other : List ℕ) → g.S.Shelf.sound l.shelf other ↔ g.S.Shelf.sound l.fn.shelf other)
