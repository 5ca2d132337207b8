-- Literals of one variable, side by side.
use Rattle.std.specs.Prelude.{ℕ, ◌==◌, Bool, false, ◌||◌, List, [], ◌∷◌, Option, Some, None}
use Rattle.kb_chain.specs.Literal.{Literal}

-- the literal is of this variable
abbrev pub repeats_variable : Option ℕ → Literal → Bool
repeats_variable None l = false
repeats_variable (Some variable) l = variable == l.variable

-- a literal is of the variable of the one in front of it
abbrev pub repeats : Option ℕ → List Literal → Bool
repeats previous [] = false
repeats previous (l ∷ ls) = repeats_variable previous l || repeats (Some l.variable) ls
