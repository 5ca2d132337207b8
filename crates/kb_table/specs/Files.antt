-- Files that are read whole.
use Rattle.std.specs.Prelude.{◌≡◌, ℕ, List, [], ◌∷◌, Option, IfSome}

-- the bytes are the whole file, where it is told what the file holds
abbrev pub IsWhole : Option (List ℕ) → List ℕ → Type 0
IsWhole told bytes = IfSome told (λ all. bytes ≡ all)

-- there is a file for each name, in order, and each is whole
abbrev pub AreWhole : (List ℕ → Option (List ℕ)) → List (List ℕ) → List (List ℕ) → Type 0
AreWhole holds [] [] = Unit {0}
AreWhole holds (name ∷ names) (bytes ∷ files) = IsWhole (holds name) bytes × AreWhole holds names files
AreWhole holds [] (bytes ∷ files) = ⊥
AreWhole holds (name ∷ names) [] = ⊥
