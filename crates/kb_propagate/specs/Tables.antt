-- The tables that keep a trail.
use Rattle.std.specs.Prelude.{◌≡◌, ℕ, ◌+◌, ◌*◌, ◌≤◌, Bool, List, length, take, Option, Some, slice_get}
use Rattle.kb_chain.specs.Literal.{Literal}
use Rattle.kb_chain.specs.Trail.{IsMarked}
use Rattle.kb_propagate.specs.Trail.{Assigned, IsTrail}

abbrev pub assigned : ℕ → List Literal → List (Option ℕ) → ℕ → List ℕ → Assigned
assigned vars reached forced_by count begins =
    record { vars = vars; literals = take count reached; reasons = take count forced_by; starts = begins }

-- the marks and the positions are those of the first `count` literals, and there is room for all literals
pub record IsTabled (vars : ℕ) (marks : List Bool) (reached : List Literal) (forced_by : List (Option ℕ)) (positions : List ℕ) (count : ℕ) (begins : List ℕ) : Type 0 where
  pub places : length marks ≡ 2 * vars + 2
  pub literals : length reached ≡ 2 * vars + 2
  pub reasons : length forced_by ≡ 2 * vars + 2
  pub variables : length positions ≡ vars + 1
  pub filled : count ≤ 2 * vars + 2
  pub marked : IsMarked marks (take count reached)
  pub placed : (i : ℕ) (l : Literal) → slice_get (take count reached) i ≡ Some l → slice_get positions l.variable ≡ Some i
  pub trail : IsTrail (assigned vars reached forced_by count begins)

-- each literal stands once
abbrev pub IsDistinct : List Literal → Type 0
IsDistinct ls = (i j : ℕ) (l : Literal) → slice_get ls i ≡ Some l → slice_get ls j ≡ Some l → i ≡ j
