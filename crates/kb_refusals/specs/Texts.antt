-- Lines of texts.
use Rattle.std.specs.Prelude.{ℕ, List, [], ◌∷◌, ◌++◌, codes}

-- a line of these pieces
abbrev pub line : List (List ℕ) → List ℕ
line [] = codes "\n"
line (piece ∷ pieces) = piece ++ line pieces
