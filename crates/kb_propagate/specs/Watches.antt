-- Two watched literals a clause (Moskewicz, Madigan, Zhao, Zhang and Malik, 2001).
use Rattle.std.specs.Prelude.{◌≡◌, ℕ, ◌+◌, ◌*◌, ◌<◌, ◌==◌, ◌⊎◌, Bool, true, false, List, [], ◌∷◌, ◌++◌, length, map, zero, suc, slice_set, Option, Some, None, slice_get, slice_index_or}
use Rattle.std.specs.List.{list_any, list_all}
use Rattle.kb_chain.specs.Literal.{Literal, literal, has, negated, same, place_of}
use Rattle.kb_propagate.specs.Trail.{Assigned}
use Rattle.kb_propagate.specs.Rows.{StoredClause, rows_of}
use Rattle.kb_propagate.specs.declared.watch.Watch.{Watch}

-- the literals that a clause watches, and whether it is watched still
pub record Pair : Type 0 where
  pub first : Literal
  pub second : Literal
  pub awake : Bool

-- a clause watches the first two literals of its row, or its only one twice

abbrev pub first_watched : List Literal → Literal
first_watched [] = literal 0 true
first_watched (a ∷ row) = a

abbrev pub second_watched : List Literal → Literal
second_watched [] = literal 0 true
second_watched (a ∷ []) = a
second_watched (a ∷ b ∷ row) = b

abbrev pub pair_of : StoredClause → Pair
pair_of clause = record { first = first_watched clause.literals; second = second_watched clause.literals; awake = clause.awake }

abbrev pub pairs_of : List StoredClause → List Pair
pairs_of clauses = map pair_of clauses

-- the literal that is watched at this place of a row
abbrev pub IsWatchedAt : List Literal → Literal → ℕ → Type 0
IsWatchedAt row l place = ((place ≡ 0) × (l ≡ first_watched row)) ⊎ ((place ≡ 1) × (1 < length row) × (l ≡ second_watched row))

-- and the other one
abbrev pub other_watched : List Literal → ℕ → Literal
other_watched row zero = second_watched row
other_watched row (suc n) = first_watched row

-- a literal of the row is in the set
abbrev pub is_met : (Literal → Bool) → List Literal → Bool
is_met set row = list_any set row

-- where a watched literal is negated in the earlier set, the later one has a literal of the row; it has the only literal of a unit
pub record IsQuiet (early late : Literal → Bool) (row : List Literal) (pair : Pair) : Type 0 where
  pub first : early (negated pair.first) ≡ true → is_met late row ≡ true
  pub second : early (negated pair.second) ≡ true → is_met late row ≡ true
  pub single : same pair.first pair.second ≡ true → late pair.first ≡ true

abbrev pub Quiet : List (List Literal) → List Pair → (Literal → Bool) → (Literal → Bool) → Type 0
Quiet rows pairs early late =
    (k : ℕ) (row : List Literal) (pair : Pair) → slice_get rows k ≡ Some row → slice_get pairs k ≡ Some pair → pair.awake ≡ true
    → IsQuiet early late row pair

-- the clause of this number is one that is watched
abbrev pub IsAwake : List Pair → ℕ → Type 0
IsAwake pairs k = (pair : Pair) → slice_get pairs k ≡ Some pair → pair.awake ≡ true

-- no clause was let go
abbrev pub AllAwake : List Pair → Type 0
AllAwake pairs = (k : ℕ) → IsAwake pairs k

-- a list of watches has one of this clause
abbrev pub watches_clause : List Watch → ℕ → Bool
watches_clause list k = list_any (λ (w : Watch). w.clause == k) list

-- the watches in a table by place that stand at a literal
abbrev pub at_literal : List (List Watch) → Literal → List Watch
at_literal lists l = slice_index_or lists (place_of l) []

-- the table with this list at a literal
abbrev pub with_list : List (List Watch) → Literal → List Watch → List (List Watch)
with_list lists l ws = slice_set lists (place_of l) ws

-- the watch of clause k at this literal is in its list, or among those that are being taken up from the list of the false literal
abbrev pub IsWatchListed : List (List Watch) → List Watch → Literal → ℕ → Literal → Type 0
IsWatchListed lists rest falsified k l =
    (watches_clause (at_literal lists l) k ≡ true) ⊎ ((l ≡ falsified) × (watches_clause rest k ≡ true))

pub record AreListed (lists : List (List Watch)) (rest : List Watch) (falsified : Literal) (pairs : List Pair) : Type 0 where
  pub first : (k : ℕ) (pair : Pair) → slice_get pairs k ≡ Some pair → pair.awake ≡ true → IsWatchListed lists rest falsified k pair.first
  pub second : (k : ℕ) (pair : Pair) → slice_get pairs k ≡ Some pair → pair.awake ≡ true → IsWatchListed lists rest falsified k pair.second

-- a row has the literal, unless its clause was deleted
abbrev pub is_blocker : List Literal → Literal → Bool
is_blocker [] l = true
is_blocker (x ∷ row) l = has (x ∷ row) l

abbrev pub blocks : Option (List Literal) → Literal → Bool
blocks None l = false
blocks (Some row) l = is_blocker row l

-- the blocking literal is one of the clause's
abbrev pub is_blocked : List (List Literal) → Watch → Bool
is_blocked rows w = blocks (slice_get rows w.clause) w.blocker

abbrev pub all_blocked : List (List Literal) → List Watch → Bool
all_blocked rows list = list_all (is_blocked rows) list

-- the literals that awake clauses watch are literals of their rows
abbrev pub AreOwn : List (List Literal) → List Pair → Type 0
AreOwn rows pairs =
    (k : ℕ) (row : List Literal) (pair : Pair) → slice_get rows k ≡ Some row → slice_get pairs k ≡ Some pair → pair.awake ≡ true
    → (has row pair.first ≡ true) × (has row pair.second ≡ true)

abbrev pub AreEmpty : List (List Watch) → Type 0
AreEmpty lists = (place : ℕ) → slice_index_or lists place [] ≡ []

-- the tables of the watches, which hold at every moment
pub record IsWatching (rows : List (List Literal)) (pairs : List Pair) (lists : List (List Watch)) (vars : ℕ) : Type 0 where
  pub count : length pairs ≡ length rows
  pub places : length lists ≡ 2 * vars + 2
  pub own : AreOwn rows pairs
  pub blocked : list_all (all_blocked rows) lists ≡ true
  pub within : (k : ℕ) (row : List Literal) → slice_get rows k ≡ Some row → (l : Literal) → has row l ≡ true → place_of l < 2 * vars + 2

-- a watched literal is not negated in the early set, or the late one meets the row, or the watch is still to be taken up
abbrev pub IsSettledOrWaiting : (Literal → Bool) → (Literal → Bool) → List Literal → List Watch → Literal → ℕ → Literal → Type 0
IsSettledOrWaiting early late row rest falsified k l =
    early (negated l) ≡ true → (is_met late row ≡ true) ⊎ ((l ≡ falsified) × (watches_clause rest k ≡ true))

pub record IsPending (early late : Literal → Bool) (row : List Literal) (pair : Pair) (rest : List Watch) (falsified : Literal) (k : ℕ) : Type 0 where
  pub first : IsSettledOrWaiting early late row rest falsified k pair.first
  pub second : IsSettledOrWaiting early late row rest falsified k pair.second
  pub single : same pair.first pair.second ≡ true → late pair.first ≡ true

-- the watches at the false literal are being taken up: these are still to come
pub record Walks (early late : Literal → Bool) (rows : List (List Literal)) (pairs : List Pair) (lists : List (List Watch)) (rest : List Watch)
    (falsified : Literal) : Type 0 where
  pub listed : AreListed lists rest falsified pairs
  pub pending : (k : ℕ) (row : List Literal) (pair : Pair) → slice_get rows k ≡ Some row → slice_get pairs k ≡ Some pair → pair.awake ≡ true
      → IsPending early late row pair rest falsified k

-- each watch of an awake clause is in its list
abbrev pub AllListed : List (List Watch) → List Pair → Type 0
AllListed lists pairs =
    (k : ℕ) (pair : Pair) → slice_get pairs k ≡ Some pair → pair.awake ≡ true
    → (watches_clause (at_literal lists pair.first) k ≡ true) × (watches_clause (at_literal lists pair.second) k ≡ true)

-- what stays as the watches move: all clauses awake, and each set within the trail quiet
abbrev pub StaysQuiet : List StoredClause → List StoredClause → (Literal → Bool) → Type 0
StaysQuiet old new trail =
    (AllAwake (pairs_of old) → AllAwake (pairs_of new))
    × ((set : Literal → Bool) → ((l : Literal) → set l ≡ true → trail l ≡ true) → Quiet (rows_of old) (pairs_of old) set set → Quiet (rows_of new) (pairs_of new) set set)

-- one of two watched literals, and the other one
abbrev pub IsOther : Pair → Literal → Literal → Type 0
IsOther pair l other = ((l ≡ pair.first) × (other ≡ pair.second)) ⊎ ((l ≡ pair.second) × (other ≡ pair.first))

-- the table with one more watch at a literal
abbrev pub put : List (List Watch) → Literal → Watch → List (List Watch)
put lists l w = slice_set lists (place_of l) (at_literal lists l ++ w ∷ [])

abbrev pub paired : Literal → Literal → Pair
paired a b = record { first = a; second = b; awake = true }

-- the table with the two watches of a clause
abbrev pub put_pair : List (List Watch) → Literal → Literal → ℕ → List (List Watch)
put_pair lists a b number = put (put lists a (record { clause = number; blocker = b })) b (record { clause = number; blocker = a })

-- these clauses are watched, and the literals of the units among them are true
pub record IsBegun (rows : List (List Literal)) (pairs : List Pair) (lists : List (List Watch)) (t : Assigned) : Type 0 where
  pub watching : IsWatching rows pairs lists t.vars
  pub awake : AllAwake pairs
  pub listed : AllListed lists pairs
  pub quiet : Quiet rows pairs (has []) (has t.literals)
