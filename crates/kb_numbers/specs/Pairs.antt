-- Pairs of numbers, one of a name and one of a type, and tables of their places.
use Rattle.std.specs.Prelude.{◌≡◌, ℕ, Bool, ◌==◌, ◌&&◌, List, length, Option, Some, slice_get, unwrap_or}
use Rattle.std.specs.HashMap.{HashMap, get_by}
use Rattle.kb_numbers.specs.declared.pairs.Pair.{Pair}
use Rattle.kb_numbers.specs.Places.{place_where}

-- whether they are one pair
abbrev pub is_pair : Pair → Pair → Bool
is_pair one other = (one.name == other.name) && (one.kind == other.kind)

-- the first place of a pair
abbrev pub first_place : List Pair → Pair → Option ℕ
first_place pairs pair = place_where (λ (other : Pair). is_pair other pair) pairs

-- what a table has at a pair
abbrev pub place_told : {S : Type 0} → HashMap Pair ℕ S → Pair → Option ℕ
place_told table pair = get_by (λ (key : Pair). is_pair pair key) table

-- the same, and 0 where it has nothing
abbrev pub place_in : {S : Type 0} → HashMap Pair ℕ S → Pair → ℕ
place_in table pair = unwrap_or (place_told table pair) 0

-- the table has the first place of each pair
abbrev pub HasFirsts : {S : Type 0} → HashMap Pair ℕ S → List Pair → Type 0
HasFirsts table pairs = (pair : Pair) → place_told table pair ≡ first_place pairs pair

-- of each of these pairs its first place
pub record AreFirsts (pairs : List Pair) (places : List ℕ) : Type 0 where
  pub many : length places ≡ length pairs
  pub first : (at : ℕ) (pair : Pair) (place : ℕ) → slice_get pairs at ≡ Some pair → slice_get places at ≡ Some place → first_place pairs pair ≡ Some place
