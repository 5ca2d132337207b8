-- Literals of propositional logic. The numbers are those of the DIMACS format: n is the variable n, -n its negation.
use Rattle.std.specs.Prelude.{ℕ, ◌+◌, ◌*◌, ◌/◌, ◌%◌, ◌==◌, pred, suc, ℤ, pos, negsuc, Bool, true, false, not, cond, List}
use Rattle.std.specs.List.{list_any}

-- a variable, or its negation
pub record Literal : Type 0 where
  pub variable : ℕ
  pub positive : Bool

abbrev pub literal : ℕ → Bool → Literal
literal variable positive = record { variable = variable; positive = positive }

-- the literal of a DIMACS number, and the number of a literal
abbrev pub literal_of : ℤ → Literal
literal_of (pos n) = record { variable = n; positive = true }
literal_of (negsuc n) = record { variable = suc n; positive = false }

abbrev pub number_of : Literal → ℤ
number_of l = cond l.positive (pos l.variable) (negsuc (pred l.variable))

abbrev pub negated : Literal → Literal
negated l = record { variable = l.variable; positive = not l.positive }

-- the place of a literal in the order of literals: by rising variable, the positive one first
abbrev pub place_of : Literal → ℕ
place_of l = 2 * l.variable + cond l.positive 0 1

-- the literal at a place
abbrev pub literal_at : ℕ → Literal
literal_at place = record { variable = place / 2; positive = place % 2 == 0 }

abbrev pub same : Literal → Literal → Bool
same a b = place_of a == place_of b

-- whether a literal is among those of a list
abbrev pub has : List Literal → Literal → Bool
has ls l = list_any (same l) ls

-- whether an assignment of the variables makes a literal true
abbrev pub is_true : (ℕ → Bool) → Literal → Bool
is_true assignment l = cond l.positive (assignment l.variable) (not (assignment l.variable))
