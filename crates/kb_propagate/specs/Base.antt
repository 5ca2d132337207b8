-- What a search stands on: the clauses with their derivations, what is true, and the watches.
use Rattle.std.specs.Prelude.{◌≡◌, ℕ, ◌+◌, ◌*◌, ◌<◌, ◌≤◌, ◌^◌, ◌||◌, Bool, true, false, List, [], length, take, Some, slice_get, slice_index_or, ◌⊎◌}
use Rattle.kb_chain.specs.Literal.{Literal, literal, has, negated, place_of}
use Rattle.kb_chain.specs.Cnf.{Cnf}
use Rattle.kb_chain.specs.Chains.{derived}
use Rattle.kb_chain.specs.Propagation.{all_negated, IsFresh}
use Rattle.kb_chain.specs.declared.log.Chain.{Chain}
use Rattle.kb_propagate.specs.Trail.{Assigned, before_level, HasReasons}
use Rattle.kb_propagate.specs.Store.{IsJustified}
use Rattle.kb_propagate.specs.Rows.{rows_of, AreReordered}
use Rattle.kb_propagate.specs.Watches.{Pair, pairs_of, IsWatching, AllListed, AllAwake, Quiet}
use Rattle.kb_propagate.specs.Forgetting.{AreLeftOrEmpty}
use Rattle.kb_propagate.specs.declared.watch.Watch.{Watch}
use Rattle.kb_propagate.specs.declared.base.Base.{Base}

-- all literals of the row of this number are false
pub record IsConflict (rows : List (List Literal)) (t : Assigned) (number : ℕ) : Type 0 where
  pub row : List Literal
  pub numbered : slice_get rows number ≡ Some row
  pub false_all : all_negated (has t.literals) row ≡ true

-- the log derives the clauses that the rows store; they are the reasons of the trail, watched as long as they are awake, and quiet where
-- each level began; as long as none was let go, each entry is fresh
pub record IsBase (formula : Cnf) (entries : List Chain) (rows : List (List Literal)) (pairs : List Pair) (lists : List (List Watch)) (t : Assigned) (whole : Bool) : Type 0 where
  pub clauses : List (List Literal)
  pub derives : derived formula.clauses entries ≡ Some clauses
  pub vars : t.vars ≡ formula.vars
  pub justified : IsJustified clauses rows t
  pub watching : IsWatching rows pairs lists t.vars
  pub listed : AllListed lists pairs
  pub fresh : whole ≡ true → AllAwake pairs × IsFresh formula.clauses entries
  pub cuts : (j : ℕ) → j < length t.starts → Quiet rows pairs (has (before_level t j)) (has (before_level t j))

abbrev pub Stands : Base → Type 0
Stands b = IsBase b.formula.now b.entries (rows_of b.clauses) (pairs_of b.clauses) b.watches.lists.items b.trail b.whole

-- what the head of the trail has passed was taken up
pub record IsReady (b : Base) : Type 0 where
  pub head : b.head ≤ length b.trail.literals
  pub quiet : Quiet (rows_of b.clauses) (pairs_of b.clauses) (has (take b.head b.trail.literals)) (has b.trail.literals)

-- what propagation keeps
pub record KeepsBase (old new : Base) : Type 0 where
  pub stands : Stands new
  pub rows : AreReordered (rows_of old.clauses) (rows_of new.clauses)
  pub entries : new.entries ≡ old.entries
  pub formula : new.formula.now ≡ old.formula.now
  pub whole : new.whole ≡ old.whole

-- what stays where clauses are let go or deleted
pub record Forgets (old new : Base) : Type 0 where
  pub stands : Stands new
  pub ready : IsReady new
  pub trail : new.trail ≡ old.trail
  pub rows : AreLeftOrEmpty (rows_of old.clauses) (rows_of new.clauses)
  pub entries : new.entries ≡ old.entries
  pub formula : new.formula.now ≡ old.formula.now

-- a variable that a literal can have has a value
abbrev pub IsValued : Assigned → ℕ → Type 0
IsValued t v = v < 2 ^ 31 → (has t.literals (literal v true) || has t.literals (literal v false)) ≡ true

abbrev pub AllAssigned : Assigned → Type 0
AllAssigned t = (v : ℕ) → 0 < v → v ≤ t.vars → IsValued t v

-- a literal that has no value
pub record HasNoValue (t : Assigned) (l : Literal) : Type 0 where
  pub absent : has t.literals l ≡ false
  pub possible : has t.literals (negated l) ≡ false
  pub place : place_of l < 2 * t.vars + 2

-- the trail is a model
pub record IsComplete (b : Base) : Type 0 where
  pub assigned : AllAssigned b.trail
  pub quiet : Quiet (rows_of b.clauses) (pairs_of b.clauses) (has b.trail.literals) (has b.trail.literals)

-- all true literals were taken up
pub record IsPropagated (b : Base) : Type 0 where
  pub head : b.head ≡ length b.trail.literals
  pub quiet : Quiet (rows_of b.clauses) (pairs_of b.clauses) (has b.trail.literals) (has b.trail.literals)

-- the second literal of a row, or the only one
abbrev pub IsSecondLiteral : List Literal → Literal → Type 0
IsSecondLiteral row l = (slice_get row 1 ≡ Some l) ⊎ ((length row ≡ 1) × (slice_get row 0 ≡ Some l))

-- the bits say which positive literals are in the trail
abbrev pub IsModelOf : List Bool → Assigned → Type 0
IsModelOf bits t = (k : ℕ) → k < length bits → k + 1 < 2 ^ 31 → slice_index_or bits k false ≡ has t.literals (literal (k + 1) true)

-- the clause of this number is false at level 0
pub record IsDoomed (b : Base) (number : ℕ) : Type 0 where
  pub level : b.trail.starts ≡ []
  pub clauses : List (List Literal)
  pub derives : derived b.formula.now.clauses b.entries ≡ Some clauses
  pub reasons : HasReasons clauses b.trail
  pub conflict : IsConflict clauses b.trail number
