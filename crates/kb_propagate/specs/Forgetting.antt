-- Clauses that are watched no longer.
use Rattle.std.specs.Prelude.{◌≡◌, ◌⊎◌, ℕ, Bool, false, List, [], length, Option, Some, None, filter, slice_get, slice_set}
use Rattle.kb_chain.specs.Literal.{Literal}
use Rattle.kb_propagate.specs.Trail.{Assigned}
use Rattle.kb_propagate.specs.Store.{IsNoReason}
use Rattle.kb_propagate.specs.Rows.{StoredClause}
use Rattle.kb_propagate.specs.declared.watch.Watch.{Watch}

abbrev pub is_awake : Option StoredClause → Bool
is_awake None = false
is_awake (Some clause) = clause.awake

-- the watch is of a clause that is awake
abbrev pub has_awake_clause : List StoredClause → Watch → Bool
has_awake_clause clauses w = is_awake (slice_get clauses w.clause)

abbrev pub only_awake : List StoredClause → List Watch → List Watch
only_awake clauses list = filter (has_awake_clause clauses) list

-- the clauses when the one of this number is deleted
abbrev pub deleted_at : List StoredClause → ℕ → Option StoredClause → List StoredClause
deleted_at clauses k None = clauses
deleted_at clauses k (Some clause) = slice_set clauses k (record { literals = []; awake = false })

abbrev pub deleted : List StoredClause → ℕ → List StoredClause
deleted clauses k = deleted_at clauses k (slice_get clauses k)

-- the clauses when the one of this number is let go
abbrev pub asleep_at : List StoredClause → ℕ → Option StoredClause → List StoredClause
asleep_at clauses k None = clauses
asleep_at clauses k (Some clause) = slice_set clauses k (record clause { awake = false })

abbrev pub asleep : List StoredClause → ℕ → List StoredClause
asleep clauses k = asleep_at clauses k (slice_get clauses k)

-- each row is left as it is, or is empty
pub record AreLeftOrEmpty (old new : List (List Literal)) : Type 0 where
  pub count : length new ≡ length old
  pub each : (k : ℕ) → (slice_get new k ≡ slice_get old k) ⊎ (slice_get new k ≡ Some [])

-- the clause of this number is deleted, and no other one; where it is a reason, it stays too
abbrev pub IsDeletedUnlessReason : Assigned → ℕ → List StoredClause → List StoredClause → Type 0
IsDeletedUnlessReason t number old new = (IsNoReason t number × (new ≡ deleted old number)) ⊎ ((IsNoReason t number → ⊥) × (new ≡ old))
