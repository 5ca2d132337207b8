-- The trail of a search: the literals in the order in which they became true, with their reasons and levels.
use Rattle.std.specs.Prelude.{◌≡◌, ℕ, ◌+◌, ◌*◌, ◌<◌, ◌≤◌, Bool, true, false, List, length, take, Option, Some, None, slice_get, slice_index_or}
use Rattle.kb_chain.specs.Literal.{Literal, has, negated, place_of}
use Rattle.kb_chain.specs.Propagation.{all_negated, others}

-- the literals, the number of the clause that forced each of them (none: a decision), and how many stood before each level began
pub record Assigned : Type 0 where
  pub vars : ℕ
  pub literals : List Literal
  pub reasons : List (Option ℕ)
  pub starts : List ℕ

-- where level j + 1 began
abbrev pub level_start : List ℕ → ℕ → ℕ
level_start starts j = slice_index_or starts j 0

-- the literals that were there when level j + 1 began
abbrev pub before_level : Assigned → ℕ → List Literal
before_level t j = take (level_start t.starts j) t.literals

-- the literals of level 0
abbrev pub level_zero : Assigned → List Literal
level_zero t = take (slice_index_or t.starts 0 (length t.literals)) t.literals

-- what holds of each trail
pub record IsTrail (t : Assigned) : Type 0 where
  pub consistent : (l : Literal) → has t.literals l ≡ true → has t.literals (negated l) ≡ false
  pub within : (l : Literal) → has t.literals l ≡ true → place_of l < 2 * t.vars + 2
  pub room : length t.literals ≤ 2 * t.vars + 2
  pub reasons : length t.reasons ≡ length t.literals
  pub inside : (j : ℕ) → j < length t.starts → level_start t.starts j < length t.literals
  pub rising : (i j : ℕ) → i < j → j < length t.starts → level_start t.starts i < level_start t.starts j
  pub decisions : (i : ℕ) → slice_get t.reasons i ≡ Some None → (j : ℕ) × (j < length t.starts) × (level_start t.starts j ≡ i)

-- clause c has the literal, and all its others are negated by the literals before it
pub record IsReason (clauses : List (List Literal)) (before : Literal → Bool) (l : Literal) (c : ℕ) : Type 0 where
  pub clause : List Literal
  pub numbered : slice_get clauses c ≡ Some clause
  pub member : has clause l ≡ true
  pub forced : all_negated before (others l clause) ≡ true

-- each literal with a reason was forced by it
abbrev pub HasReasons : List (List Literal) → Assigned → Type 0
HasReasons clauses t =
    (i c : ℕ) (l : Literal) → slice_get t.literals i ≡ Some l → slice_get t.reasons i ≡ Some (Some c)
    → IsReason clauses (has (take i t.literals)) l c

-- the trail goes on where the old one ends, at the same level
pub record TrailGrows (old new : Assigned) : Type 0 where
  pub vars : new.vars ≡ old.vars
  pub literals : take (length old.literals) new.literals ≡ old.literals
  pub starts : new.starts ≡ old.starts

-- the trail without what came after a level
abbrev pub cut_back : Assigned → ℕ → Assigned
cut_back t level = record {
  vars = t.vars;
  literals = before_level t level;
  reasons = take (level_start t.starts level) t.reasons;
  starts = take level t.starts;
}
