-- The entries of a log that the clauses of some numbers need.
use Rattle.std.specs.Prelude.{◌≡◌, ℕ, ◌+◌, ◌-◌, ◌<◌, ◌≤◌, ◌==◌, nat_lt, Bool, true, false, ◌||◌, List, [], length, Some, slice_get, slice_index_or}
use Rattle.std.specs.List.{list_any}
use Rattle.kb_chain.specs.Literal.{Literal}
use Rattle.kb_chain.specs.Index.{has_number}
use Rattle.kb_chain.specs.declared.log.Chain.{Chain}

-- a chain cites the clause of this number
abbrev pub cites : Chain → ℕ → Bool
cites chain number = (chain.start == number) || list_any (λ (step : ℕ × ℕ). step.1 == number) chain.steps

-- the clause of this number is one of the formula's, which are `first`, or that of a marked entry
abbrev pub is_kept : ℕ → List Bool → ℕ → Bool
is_kept first marks number = nat_lt number first || slice_index_or marks (number - first) false

-- from this entry on, the marked ones cite such clauses alone, as far as they stand before them
abbrev pub AreClosed : ℕ → List Chain → List Bool → ℕ → Type 0
AreClosed first entries marks from =
    (i : ℕ) (entry : Chain) → from ≤ i → slice_get entries i ≡ Some entry → slice_index_or marks i false ≡ true
    → (number : ℕ) → cites entry number ≡ true → number < first + i → is_kept first marks number ≡ true

-- each set of numbers that has these and, with an entry's number, those before it that its chain cites, has this one
abbrev pub IsNeeded : ℕ → List Chain → List ℕ → ℕ → Type 0
IsNeeded first entries numbers number =
    (set : ℕ → Bool) → ((n : ℕ) → has_number numbers n ≡ true → set n ≡ true)
    → ((i : ℕ) (entry : Chain) → slice_get entries i ≡ Some entry → set (first + i) ≡ true
    → (n : ℕ) → cites entry n ≡ true → n < first + i → set n ≡ true)
    → set number ≡ true

-- the clause of each entry that is not needed is left empty
abbrev pub SkipsOthers : ℕ → List Chain → List ℕ → List (List Literal) → Type 0
SkipsOthers first entries numbers clauses =
    (i : ℕ) → i < length entries → (IsNeeded first entries numbers (first + i) → ⊥) → slice_get clauses (first + i) ≡ Some []
