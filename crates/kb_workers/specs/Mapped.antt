-- The answers of work on pieces.
use Rattle.std.specs.Prelude.{List, [], ◌∷◌}

-- The answers are those of the pieces: as many, and entry i is one that the work may answer for piece i. Nothing is said of
-- when or in which order they came.
abbrev pub AreMapped : {T R : Type 0} → (T → R → Type 0) → List T → List R → Type 0
AreMapped work [] [] = Unit {0}
AreMapped work (piece ∷ pieces) (answer ∷ answers) = work piece answer × AreMapped work pieces answers
AreMapped work [] (answer ∷ answers) = ⊥
AreMapped work (piece ∷ pieces) [] = ⊥
