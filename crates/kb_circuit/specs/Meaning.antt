-- What literals mean under an assignment, and what a circuit's new clauses say.
use Rattle.std.specs.Prelude.{◌≡◌, ℕ, ◌+◌, ◌*◌, ◌≤◌, ℤ, Bool, true, false, List, [], ◌∷◌, map}
use Rattle.kb_arith.specs.Word.{int_of_bits}
use Rattle.kb_chain.specs.Literal.{Literal, is_true}
use Rattle.kb_chain.specs.Clause.{Satisfies}
use Rattle.kb_chain.specs.Cnf.{Cnf, IsWithin, AllWithin}

abbrev pub bit : Bool → ℕ
bit true = 1
bit false = 0

-- the number that bits spell, the lowest bit first
abbrev pub number : List Bool → ℕ
number [] = 0
number (b ∷ bs) = bit b + 2 * number bs

-- the bits of literals under an assignment, and the int that they spell
abbrev pub bits_under : (ℕ → Bool) → List Literal → List Bool
bits_under assignment literals = map (is_true assignment) literals

unfoldable pub int_under : (ℕ → Bool) → List Literal → ℤ
int_under assignment literals = int_of_bits (number (bits_under assignment literals))

-- two assignments give the variables up to `vars` the same values
abbrev pub Agrees : ℕ → (ℕ → Bool) → (ℕ → Bool) → Type 0
Agrees vars v w = (variable : ℕ) → variable ≤ vars → v variable ≡ w variable

-- an assignment agrees on the old variables with one that satisfies the later formula
pub record Extends (old new : Cnf) (v : ℕ → Bool) : Type 0 where
  pub assignment : ℕ → Bool
  pub agrees : Agrees old.vars v assignment
  pub satisfies : Satisfies assignment new.clauses

-- the later formula defines new variables by old ones: an assignment that satisfies it satisfies the old formula and has the
-- property that is meant, and each assignment that satisfies the old formula comes to satisfy the later one by values of
-- new variables alone
pub record Defines (old new : Cnf) (Means : (ℕ → Bool) → Type 0) : Type 0 where
  pub grows : old.vars ≤ new.vars
  pub within : AllWithin old.vars old.clauses → AllWithin new.vars new.clauses
  pub keeps : (v : ℕ → Bool) → Satisfies v new.clauses → Satisfies v old.clauses
  pub means : (v : ℕ → Bool) → Satisfies v new.clauses → Means v
  pub extends : AllWithin old.vars old.clauses → (v : ℕ → Bool) → Satisfies v old.clauses → Extends old new v

-- an assignment with these values of the inputs satisfies the formula
pub record Chooses (f : Cnf) (inputs : List ℕ) (choice : ℕ → Bool) : Type 0 where
  pub assignment : ℕ → Bool
  pub chosen : map assignment inputs ≡ map choice inputs
  pub satisfies : Satisfies assignment f.clauses

-- each is one of the variables up to `vars`
abbrev pub AreVariables : ℕ → List ℕ → Type 0
AreVariables vars [] = Unit {0}
AreVariables vars (n ∷ ns) = (n ≤ vars) × AreVariables vars ns

-- some variables of the formula, the inputs, can have any values
pub record IsFree (inputs : List ℕ) (f : Cnf) : Type 0 where
  pub variables : AreVariables f.vars inputs
  pub choose : (choice : ℕ → Bool) → Chooses f inputs choice

-- a call has put a circuit behind the formula that gives the operation of two words; what was possible still is
pub record Computes (op : ℤ → ℤ → ℤ) (left right : List Literal) (old : Cnf) (out : List Literal) (new : Cnf) : Type 0 where
  pub within : IsWithin new.vars out
  pub defines : Defines old new (λ v. int_under v out ≡ op (int_under v left) (int_under v right))
  pub free : (inputs : List ℕ) → IsFree inputs old → IsFree inputs new
