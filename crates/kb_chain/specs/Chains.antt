-- Chains of resolutions, and the clauses that a log of chains derives from the clauses of a formula.
use Rattle.std.specs.Prelude.{◌≡◌, ℕ, ◌+◌, ◌<◌, List, [], ◌∷◌, ◌++◌, length, take, Option, Some, option_and_then, IsSomeAnd, slice_get, fold}
use Rattle.kb_chain.specs.Literal.{Literal}
use Rattle.kb_chain.specs.Clause.{resolvent_of}
use Rattle.kb_chain.specs.declared.log.Chain.{Chain}

-- one step of a chain: the resolvent of the clause so far and the clause of that number, on that pivot
unfoldable pub resolved : List (List Literal) → Option (List Literal) → ℕ × ℕ → Option (List Literal)
resolved clauses done step =
    option_and_then (λ clause. option_and_then (λ side. resolvent_of clause side step.0) (slice_get clauses step.1)) done

-- the clause that a chain gives from numbered clauses, where all its resolvents are there
abbrev pub entry_of : List (List Literal) → Chain → Option (List Literal)
entry_of clauses chain = fold (resolved clauses) (slice_get clauses chain.start) chain.steps

-- the clauses with those of the entries behind them, where each entry derives from what stands before it
abbrev pub derived : List (List Literal) → List Chain → Option (List (List Literal))
derived clauses [] = Some clauses
derived clauses (entry ∷ entries) =
    option_and_then (λ clause. derived (clauses ++ clause ∷ []) entries) (entry_of clauses entry)

-- each entry derives, and its clause is good beside the clauses before it
abbrev pub EachEntry : (List (List Literal) → List Literal → Type 0) → List (List Literal) → List Chain → Type 0
EachEntry Good clauses [] = Unit {0}
EachEntry Good clauses (entry ∷ entries) =
    IsSomeAnd (entry_of clauses entry) (λ clause. Good clauses clause × EachEntry Good (clauses ++ clause ∷ []) entries)

-- entry i is the first that is not so
pub record IsFirstBadEntry (Good : List (List Literal) → List Literal → Type 0) (clauses : List (List Literal)) (entries : List Chain) (i : ℕ) : Type 0 where
  pub inside : i < length entries
  pub before : EachEntry Good clauses (take i entries)
  pub bad : EachEntry Good clauses (take (i + 1) entries) → ⊥

abbrev pub IsAnyEntry : List (List Literal) → List Literal → Type 0
IsAnyEntry _ _ = Unit {0}

-- each entry derives
abbrev pub Derives : List (List Literal) → List Chain → Type 0
Derives clauses entries = EachEntry IsAnyEntry clauses entries

-- there is an entry, each derives, and the last one is the empty clause
pub record IsRefutation (clauses : List (List Literal)) (entries : List Chain) : Type 0 where
  pub entry : 0 < length entries
  pub last : (earlier : List (List Literal)) × (derived clauses entries ≡ Some (earlier ++ [] ∷ []))
