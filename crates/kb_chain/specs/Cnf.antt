-- Formulas in conjunctive normal form.
use Rattle.std.specs.Prelude.{◌≡◌, ℕ, nat_le, List, Bool, true}
use Rattle.std.specs.List.{list_all}
use Rattle.kb_chain.specs.Literal.{Literal}

-- the clauses over the variables 1 to `vars`
pub record Cnf : Type 0 where
  pub vars : ℕ
  pub clauses : List (List Literal)

-- the variables of a clause's literals are at most `vars`
abbrev pub is_within : ℕ → List Literal → Bool
is_within vars clause = list_all (λ (l : Literal). nat_le l.variable vars) clause

abbrev pub IsWithin : ℕ → List Literal → Type 0
IsWithin vars clause = is_within vars clause ≡ true

abbrev pub AllWithin : ℕ → List (List Literal) → Type 0
AllWithin vars clauses = list_all (is_within vars) clauses ≡ true
