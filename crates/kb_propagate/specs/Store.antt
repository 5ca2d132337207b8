-- The clauses as the search stores them: without literals that were false at level 0 when they were learned. Of a clause that was
-- deleted the row is empty.
use Rattle.std.specs.Prelude.{◌≡◌, ℕ, ◌<◌, Bool, true, false, List, length, Some, slice_get}
use Rattle.kb_chain.specs.Literal.{Literal, has, negated}
use Rattle.kb_propagate.specs.Trail.{Assigned, level_zero, HasReasons}

-- the stored literals are of the clause, and the negations of all others are in the set
pub record IsRow (zero : Literal → Bool) (row clause : List Literal) : Type 0 where
  pub part : (l : Literal) → has row l ≡ true → has clause l ≡ true
  pub rest : (l : Literal) → has clause l ≡ true → has row l ≡ false → zero (negated l) ≡ true

pub record IsStored (zero : Literal → Bool) (clauses rows : List (List Literal)) : Type 0 where
  pub count : length rows ≡ length clauses
  pub each : (k : ℕ) (clause row : List Literal) → slice_get clauses k ≡ Some clause → slice_get rows k ≡ Some row → 0 < length row → IsRow zero row clause

-- the rows of the reasons are there
abbrev pub AreKept : List (List Literal) → Assigned → Type 0
AreKept rows t = (i c : ℕ) (row : List Literal) → slice_get t.reasons i ≡ Some (Some c) → slice_get rows c ≡ Some row → 0 < length row

-- the clause of this number is the reason of no literal
abbrev pub IsNoReason : Assigned → ℕ → Type 0
IsNoReason t c = (i : ℕ) → slice_get t.reasons i ≡ Some (Some c) → ⊥

-- the rows store these clauses, which are the reasons of the trail
pub record IsJustified (clauses rows : List (List Literal)) (t : Assigned) : Type 0 where
  pub stored : IsStored (has (level_zero t)) clauses rows
  pub reasons : HasReasons clauses t
  pub kept : AreKept rows t
