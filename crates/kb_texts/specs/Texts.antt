-- Lists in which each item stands once.
use Rattle.std.specs.Prelude.{◌≡◌, ℕ, List, [], ◌∷◌, ◌++◌, Some, slice_get, if◌then◌else◌}
use Rattle.std.specs.List.{list_any}
use Rattle.std.specs.Str.{bytes_eq}

-- no item stands at two places
abbrev pub AreDistinct : {A : Type 0} → List A → Type 0
AreDistinct {A} xs = (one other : ℕ) (x : A) → slice_get xs one ≡ Some x → slice_get xs other ≡ Some x → one ≡ other

-- what stood at a place stands there
abbrev pub Keeps : {A : Type 0} → List A → List A → Type 0
Keeps {A} old new = (place : ℕ) (x : A) → slice_get old place ≡ Some x → slice_get new place ≡ Some x

-- the texts with one that goes to the end unless it is there
abbrev pub with_text : List (List ℕ) → List ℕ → List (List ℕ)
with_text texts bytes = if list_any (bytes_eq bytes) texts then texts else texts ++ bytes ∷ []
