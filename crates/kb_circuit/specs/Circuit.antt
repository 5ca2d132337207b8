-- Circuits as formulas: each gate is a new variable with the clauses that define it (Tseitin, 1968).
use Rattle.std.specs.Prelude.{◌≡◌, ◌+◌, ◌≤◌, true, false, List, [], ◌∷◌, ◌++◌}
use Rattle.kb_chain.specs.Literal.{Literal, literal}
use Rattle.kb_chain.specs.Clause.{clause_of}
use Rattle.kb_chain.specs.Cnf.{Cnf, AllWithin}

-- the literal that is true, and the one that is false
abbrev pub truth : Literal
truth = literal 1 true

abbrev pub falsity : Literal
falsity = literal 1 false

-- what is built on a formula: literals, say, and the formula afterwards
abbrev pub Circuit : Type 0 → Type 0
Circuit A = Cnf → A × Cnf

infixl 10 ◌>>=◌
-- one circuit, and then the next on what it gave, so that `do` builds one part after the other
abbrev pub ◌>>=◌ : {A B : Type 0} → Circuit A → (A → Circuit B) → Circuit B
(c >>= next) f = next (c f).0 (c f).1

-- adds nothing
abbrev pub done : {A : Type 0} → A → Circuit A
done x f = (x, f)

-- the formula with one more variable, and that variable's literal
abbrev pub with_variable : Cnf → Cnf
with_variable f = record { vars = f.vars + 1; clauses = f.clauses }

abbrev pub next_literal : Cnf → Literal
next_literal f = literal (f.vars + 1) true

-- the formula with one more clause, and with some more, in order
abbrev pub with_clause : Cnf → List Literal → Cnf
with_clause f literals = record { vars = f.vars; clauses = f.clauses ++ clause_of literals ∷ [] }

abbrev pub with_clauses : Cnf → List (List Literal) → Cnf
with_clauses f [] = f
with_clauses f (clause ∷ clauses) = with_clauses (with_clause f clause) clauses

-- what every builder's formula is: the first clause makes variable 1 true
abbrev pub BeginsTrue : List (List Literal) → Type 0
BeginsTrue [] = ⊥
BeginsTrue (clause ∷ clauses) = clause ≡ truth ∷ []

pub record IsCircuit (f : Cnf) : Type 0 where
  pub variable : 1 ≤ f.vars
  pub first : BeginsTrue f.clauses
  pub within : AllWithin f.vars f.clauses
