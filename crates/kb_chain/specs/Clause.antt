-- Clauses and their resolvents (the resolution principle: Robinson, 1965).
use Rattle.std.specs.Prelude.{◌≡◌, ℕ, ◌-◌, slice_index_or, ◌==◌, ◌<◌, nat_lt, Bool, true, false, not, ◌&&◌, ◌||◌, cond, List, [], ◌∷◌, ◌++◌, Option, Some, None}
use Rattle.std.specs.List.{list_any, filter}
use Rattle.std.specs.List.Sorted.{IsNonDecreasingBy}
use Rattle.kb_chain.specs.Literal.{Literal, literal, place_of, same, has, is_true, negated}

-- a literal comes before each of a list
abbrev pub IsBefore : Literal → List Literal → Type 0
IsBefore l [] = Unit {0}
IsBefore l (m ∷ ms) = (place_of l < place_of m) × IsBefore l ms

-- the literals rise, so that none stands twice
abbrev pub IsOrdered : List Literal → Type 0
IsOrdered [] = Unit {0}
IsOrdered (l ∷ ls) = IsBefore l ls × IsOrdered ls

-- no literal comes before the one in front of it
abbrev pub IsInPlaceOrder : List Literal → Type 0
IsInPlaceOrder ls = IsNonDecreasingBy place_of ls

-- the ordered literals with one more among them
abbrev pub with_literal : Literal → List Literal → List Literal
with_literal l [] = l ∷ []
with_literal l (m ∷ ms) =
    cond (nat_lt (place_of l) (place_of m)) (l ∷ m ∷ ms) (cond (same l m) (m ∷ ms) (m ∷ with_literal l ms))

-- the clause of any literals: they in order, each once
abbrev pub clause_of : List Literal → List Literal
clause_of [] = []
clause_of (l ∷ ls) = with_literal l (clause_of ls)

-- the assignment that a list of bits spells, the bit of variable 1 first; false behind its end
abbrev pub assignment_of : List Bool → ℕ → Bool
assignment_of bits variable = slice_index_or bits (variable - 1) false

-- an assignment makes a clause true: one of its literals
abbrev pub clause_true : (ℕ → Bool) → List Literal → Bool
clause_true assignment clause = list_any (is_true assignment) clause

-- each clause is true
abbrev pub Satisfies : (ℕ → Bool) → List (List Literal) → Type 0
Satisfies assignment [] = Unit {0}
Satisfies assignment (clause ∷ clauses) = (clause_true assignment clause ≡ true) × Satisfies assignment clauses

-- the literals of all variables but one
abbrev pub without : ℕ → List Literal → List Literal
without pivot ls = filter (λ (l : Literal). not (l.variable == pivot)) ls

-- of the two literals of a variable exactly this one is in the clause
abbrev pub has_only : List Literal → Literal → Bool
has_only clause l = has clause l && not (has clause (negated l))

-- one clause has exactly one of the pivot's two literals, and the other exactly the other
abbrev pub are_opposite : List Literal → List Literal → ℕ → Bool
are_opposite left right pivot =
    (has_only left (literal pivot true) && has_only right (literal pivot false))
    || (has_only left (literal pivot false) && has_only right (literal pivot true))

-- the union of two such clauses without these two literals
abbrev pub resolvent_of : List Literal → List Literal → ℕ → Option (List Literal)
resolvent_of left right pivot =
    cond (are_opposite left right pivot) (Some (clause_of (without pivot (left ++ right)))) None
