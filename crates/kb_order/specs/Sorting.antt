-- What the steps of making a set of texts keep.
use Rattle.std.specs.Prelude.{ℕ, ◌⊎◌, ◌↔◌, List}
use Rattle.std.specs.Ordering.{nat_cmp, is_lt}
use Rattle.std.specs.List.{Contains}
use Rattle.std.specs.List.Sorted.{IsSortedBy}
use Rattle.std.specs.Cmp.Lexicographic.{slice_cmp}
use Rattle.kb_order.specs.Texts.{IsBefore, IsRising}

-- no text comes before the one behind it
abbrev pub IsFalling : List (List ℕ) → Type 0
IsFalling texts = IsSortedBy (λ x y. is_lt (slice_cmp nat_cmp y x)) texts

-- a list has the texts of another, and no others
abbrev pub HasSameTexts : List (List ℕ) → List (List ℕ) → Type 0
HasSameTexts texts other = (text : List ℕ) → Contains texts text ↔ Contains other text

-- of the texts, those that were taken, each once, and those that are left
pub record IsTaken (texts taken left : List (List ℕ)) : Type 0 where
  pub rises : IsRising taken
  pub falls : IsFalling left
  pub between : (text later : List ℕ) → Contains taken text → Contains left later → IsBefore later text → ⊥
  pub same : (text : List ℕ) → Contains texts text ↔ (Contains taken text ⊎ Contains left text)
