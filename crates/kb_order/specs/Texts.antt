-- Sets of byte texts in order, each once. Own rules: texts are ordered by their first different byte, and a text comes
-- before each longer one that begins with it.
use Rattle.std.specs.Prelude.{◌≡◌, ℕ, ◌<◌, ◌⊎◌, ◌↔◌, List, [], ◌∷◌, length, slice_index_or, Option, Some, None}
use Rattle.std.specs.List.{Contains}

-- one text comes before another
abbrev pub IsBefore : List ℕ → List ℕ → Type 0
IsBefore left [] = ⊥
IsBefore [] (r ∷ right) = Unit {0}
IsBefore (l ∷ left) (r ∷ right) = (l < r) ⊎ ((l ≡ r) × IsBefore left right)

-- each text comes before the one behind it, so that none stands twice
abbrev pub IsRising : List (List ℕ) → Type 0
IsRising [] = Unit {0}
IsRising (text ∷ []) = Unit {0}
IsRising (text ∷ next ∷ rest) = IsBefore text next × IsRising (next ∷ rest)

-- the texts of a list, in order and each once
pub record IsOrderedSet (texts set : List (List ℕ)) : Type 0 where
  pub rises : IsRising set
  pub same : (text : List ℕ) → Contains set text ↔ Contains texts text

-- where a text stands in a list, or none where it does not
abbrev pub IsPlace : List (List ℕ) → List ℕ → Option ℕ → Type 0
IsPlace texts text None = Contains texts text → ⊥
IsPlace texts text (Some place) = (place < length texts) × (slice_index_or texts place [] ≡ text)
