-- What unit propagation by an index keeps.
use Rattle.std.specs.Prelude.{◌≡◌, ℕ, ◌==◌, Bool, true, false, not, List, [], ◌∷◌, ◌++◌, length, take, Some, slice_get, slice_index_or, cond}
use Rattle.std.specs.List.{list_any, filter}
use Rattle.kb_chain.specs.Literal.{Literal, has, negated, place_of}
use Rattle.kb_chain.specs.Propagation.{all_negated, others, IsClosed, Includes, NegatesSome}
use Rattle.kb_chain.specs.declared.index.Index.{Index}
use Rattle.kb_chain.specs.declared.propagation.Status.{Status}
use Rattle.kb_chain.specs.declared.propagation.Status.TheVariants.{Negated, Unit, Open}

-- the literals with one more, if it is not there yet
abbrev pub joined : List Literal → Literal → List Literal
joined ls l = cond (has ls l) ls (ls ++ l ∷ [])

-- new goes on where old ends
abbrev pub IsFrontOf : List Literal → List Literal → Type 0
IsFrontOf old new = take (length old) new ≡ old

-- a list has this number
abbrev pub has_number : List ℕ → ℕ → Bool
has_number numbers k = list_any (λ n. n == k) numbers

-- at the place of each literal stand the numbers of the clauses that have it
abbrev pub IsIndexed : List (List Literal) → Index → Type 0
IsIndexed clauses index =
    (k : ℕ) (clause : List Literal) → slice_get clauses k ≡ Some clause → (l : Literal) → has clause l ≡ true
    → has_number (slice_index_or index.occurrences.items (place_of l) []) k ≡ true

-- the literals of a clause that are not negated in a set
abbrev pub open_literals : (Literal → Bool) → List Literal → List Literal
open_literals set clause = filter (λ l. not (set (negated l))) clause

abbrev pub status_of : List Literal → Status
status_of [] = Negated
status_of (l ∷ []) = Unit l
status_of (l ∷ m ∷ ms) = Open

-- a clause is not negated in the earlier set, and the later set holds each literal whose others are negated in the earlier one
pub record IsSettled (earlier later : Literal → Bool) (clause : List Literal) : Type 0 where
  pub consistent : all_negated earlier clause ≡ false
  pub reached : (l : Literal) → has clause l ≡ true → all_negated earlier (others l clause) ≡ true → later l ≡ true

abbrev pub AreSettled : List (List Literal) → List Literal → List Literal → Type 0
AreSettled clauses earlier later =
    (k : ℕ) (clause : List Literal) → slice_get clauses k ≡ Some clause → IsSettled (has earlier) (has later) clause

-- unit propagation reaches these literals from none, no further ones, and negates no clause
pub record IsRoot (clauses : List (List Literal)) (reached : List Literal) : Type 0 where
  pub settled : AreSettled clauses reached reached
  pub least : (set : Literal → Bool) → IsClosed clauses set → Includes set reached

-- unit propagation reaches these literals from none, and they negate a clause
pub record IsRefuted (clauses : List (List Literal)) (reached : List Literal) : Type 0 where
  pub negated : NegatesSome clauses (has reached)
  pub least : (set : Literal → Bool) → IsClosed clauses set → Includes set reached
