-- Where a text stops being DIMACS, and why.
use Rattle.std.specs.Prelude.{◌≡◌, ℕ, ◌-◌, ◌<◌, ◌≤◌, List, ◌∷◌, ◌++◌, length, take, Result, Ok, Err}
use Rattle.kb_chain.specs.Cnf.{Cnf}
use Rattle.kb_dimacs_text.specs.Lines.{lines}
use Rattle.kb_dimacs_text.specs.Dimacs.{AreDimacs}
use Rattle.kb_dimacs_text.specs.Fronts.{BeginsDimacs, IsLineCause}
use Rattle.kb_dimacs_text.specs.declared.refusal.Cause.{Cause}
use Rattle.kb_dimacs_text.specs.declared.refusal.Cause.TheVariants.{Header, NoNumber, HighVariable, MoreClauses, EarlyEnd}
use Rattle.kb_dimacs_text.specs.declared.refusal.Refusal.{Refusal}
use Rattle.kb_dimacs_text.specs.declared.refusal.Refusal.TheVariants.{Line, NoMemory as no_memory}

-- The first line, from 1, such that no DIMACS text begins with the lines up to it; or the last line, where some does and
-- the text itself is none.
pub record IsStoppingLine (ls : List (List ℕ)) (number : ℕ) : Type 0 where
  pub some : 1 ≤ number
  pub inside : number ≤ length ls
  pub goes_on : BeginsDimacs (take (number - 1) ls)
  pub no_further : number < length ls → BeginsDimacs (take number ls) → ⊥
  pub no_text : (formula : Cnf) → AreDimacs formula ls → ⊥

-- no DIMACS text begins with the lines up to that one, and what is wrong with it
abbrev pub IsWrongLine : List (List ℕ) → ℕ → Cause → Type 0
IsWrongLine ls number cause =
    (BeginsDimacs (take number ls) → ⊥) × (line : List ℕ) × (rest : List (List ℕ)) × (ls ≡ take (number - 1) ls ++ line ∷ rest) × IsLineCause (take (number - 1) ls) line cause

-- why it is that line: something is wrong with it, or the text could go on
abbrev pub IsCauseAt : List (List ℕ) → ℕ → Cause → Type 0
IsCauseAt ls number Header = IsWrongLine ls number Header
IsCauseAt ls number NoNumber = IsWrongLine ls number NoNumber
IsCauseAt ls number HighVariable = IsWrongLine ls number HighVariable
IsCauseAt ls number MoreClauses = IsWrongLine ls number MoreClauses
IsCauseAt ls number EarlyEnd = (number ≡ length ls) × BeginsDimacs ls

-- what the reader answers where it refuses a text
abbrev pub RefusesText : List ℕ → Refusal → Type 0
RefusesText text (Line number cause) = IsStoppingLine (lines text) number × IsCauseAt (lines text) number cause
RefusesText text no_memory = Unit {0}

-- this formula was read, unless memory ran out
abbrev pub Reads : Result Cnf Refusal → Cnf → Type 0
Reads (Ok read) formula = read ≡ formula
Reads (Err (Line number cause)) formula = ⊥
Reads (Err no_memory) formula = Unit {0}
