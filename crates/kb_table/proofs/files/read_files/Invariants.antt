use Rattle.std.proofs.Common.{◌≡◌, ℕ, List, map, take}
use Rattle.std.specs.Prelude.{string_bytes}
use Rattle.kb_table.specs.Files.{AreWhole}
use Rattle.kb_table.proofs.files.read_files.Given as goal

-- the first files are read, and the shelf holds what it held
abbrev pub invariant-loop-name : goal.invariant-loop-name
invariant-loop-name g l =
    AreWhole (g.S.Shelf.holds l.fn.shelf) (map string_bytes (take l.name-index l.names)) (map (λ file. file.items) l.files.items)
    × ((other : List ℕ) → g.S.Shelf.holds l.shelf other ≡ g.S.Shelf.holds l.fn.shelf other)
