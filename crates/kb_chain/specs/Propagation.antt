-- Unit propagation (Davis, Logemann and Loveland, 1962), by least sets of literals. A set is its test of membership.
use Rattle.std.specs.Prelude.{◌≡◌, ℕ, Bool, true, false, not, List, [], map, Some, slice_get}
use Rattle.std.specs.List.{list_all, filter}
use Rattle.kb_chain.specs.Literal.{Literal, has, same, negated}
use Rattle.kb_chain.specs.Chains.{EachEntry}
use Rattle.kb_chain.specs.declared.log.Chain.{Chain}

-- the literals of a clause beside one
abbrev pub others : Literal → List Literal → List Literal
others l clause = filter (λ m. not (same m l)) clause

-- the negation of each literal of the clause is in the set
abbrev pub all_negated : (Literal → Bool) → List Literal → Bool
all_negated set clause = list_all (λ l. set (negated l)) clause

-- where all other literals of a clause are negated in the set, it holds the literal that is left
abbrev pub IsClosed : List (List Literal) → (Literal → Bool) → Type 0
IsClosed clauses set =
    (k : ℕ) (clause : List Literal) → slice_get clauses k ≡ Some clause
    → (l : Literal) → has clause l ≡ true → all_negated set (others l clause) ≡ true → set l ≡ true

abbrev pub Includes : (Literal → Bool) → List Literal → Type 0
Includes set first = (l : Literal) → has first l ≡ true → set l ≡ true

-- the least set that includes these literals and is closed under unit propagation
pub record IsLeast (clauses : List (List Literal)) (first : List Literal) (set : Literal → Bool) : Type 0 where
  pub includes : Includes set first
  pub closed : IsClosed clauses set
  pub least : (other : Literal → Bool) → Includes other first → IsClosed clauses other → (l : Literal) → set l ≡ true → other l ≡ true

-- the set negates every literal of some clause
abbrev pub NegatesSome : List (List Literal) → (Literal → Bool) → Type 0
NegatesSome clauses set =
    (k : ℕ) × (clause : List Literal) × (slice_get clauses k ≡ Some clause) × (all_negated set clause ≡ true)

-- unit propagation alone refutes the clauses
abbrev pub UnitRefutes : List (List Literal) → Type 0
UnitRefutes clauses = (set : Literal → Bool) × IsLeast clauses [] set × NegatesSome clauses set

-- unit propagation from the negations of the clause's other literals neither reaches this one nor negates a whole clause
pub record Misses (clauses : List (List Literal)) (clause : List Literal) (l : Literal) : Type 0 where
  pub set : Literal → Bool
  pub reached : IsLeast clauses (map negated (others l clause)) set
  pub absent : set l ≡ false
  pub consistent : NegatesSome clauses set → ⊥

-- the clause has both literals of a variable
abbrev pub HasBothSigns : List Literal → Type 0
HasBothSigns clause = (l : Literal) × (has clause l ≡ true) × (has clause (negated l) ≡ true)

-- the clause says what unit propagation does not have yet: it misses one of its literals
pub record IsNew (clauses : List (List Literal)) (clause : List Literal) : Type 0 where
  pub one_sign : HasBothSigns clause → ⊥
  pub missed : (l : Literal) × (has clause l ≡ true) × Misses clauses clause l

-- each entry derives and is new to the clauses before it
abbrev pub IsFresh : List (List Literal) → List Chain → Type 0
IsFresh clauses entries = EachEntry IsNew clauses entries
