-- The DIMACS format of formulas in conjunctive normal form (DIMACS challenge on satisfiability, 1993).
use Rattle.std.specs.Prelude.{◌≡◌, ℕ, ◌<◌, ◌≤◌, ◌^◌, ℤ, pos, List, [], ◌∷◌, ◌++◌, length, map, codes}
use Rattle.std.specs.List.{flat_map}
use Rattle.kb_chain.specs.Literal.{Literal, literal_of}
use Rattle.kb_chain.specs.Clause.{clause_of}
use Rattle.kb_chain.specs.Cnf.{Cnf}
use Rattle.kb_dimacs_text.specs.Lines.{lines, line_words}
use Rattle.kb_dimacs_text.specs.Numbers.{SpellsDimacsNumber, SpellNumbers}

-- the number of a literal over the variables 1 to `vars`
abbrev pub IsLiteral : ℕ → ℤ → Type 0
IsLiteral vars number = (0 < (literal_of number).variable) × ((literal_of number).variable ≤ vars)

abbrev pub AreLiterals : ℕ → List ℤ → Type 0
AreLiterals vars [] = Unit {0}
AreLiterals vars (number ∷ numbers) = IsLiteral vars number × AreLiterals vars numbers

abbrev pub AreClauses : ℕ → List (List ℤ) → Type 0
AreClauses vars [] = Unit {0}
AreClauses vars (clause ∷ clauses) = AreLiterals vars clause × AreClauses vars clauses

-- a clause is written as its literals and 0
abbrev pub written : List ℤ → List ℤ
written clause = clause ++ pos 0 ∷ []

abbrev pub all_written : List (List ℤ) → List ℤ
all_written clauses = flat_map written clauses

-- the clause of these numbers
abbrev pub clause_from : List ℤ → List Literal
clause_from numbers = clause_of (map literal_of numbers)

-- the words `p cnf VARIABLES CLAUSES`
pub record SpellsHeader (vars count : ℕ) (words : List (List ℕ)) : Type 0 where
  pub vars_word : List ℕ
  pub count_word : List ℕ
  pub words_are : words ≡ codes "p" ∷ codes "cnf" ∷ vars_word ∷ count_word ∷ []
  pub vars_is : SpellsDimacsNumber (pos vars) vars_word
  pub count_is : SpellsDimacsNumber (pos count) count_word
  pub vars_fit : vars < 2 ^ 31
  pub count_fits : count < 2 ^ 31

-- the words behind the header are those of so many clauses
pub record SpellClauses (vars count : ℕ) (clauses : List (List ℤ)) (words : List (List ℕ)) : Type 0 where
  pub counted : length clauses ≡ count
  pub literals : AreClauses vars clauses
  pub words_are : SpellNumbers (all_written clauses) words

-- The lines are DIMACS of the formula: none with words before the header, the header, and the lines of the clauses.
pub record AreDimacs (formula : Cnf) (ls : List (List ℕ)) : Type 0 where
  pub before : List (List ℕ)
  pub header : List ℕ
  pub behind : List (List ℕ)
  pub count : ℕ
  pub clauses : List (List ℤ)
  pub lines_are : ls ≡ before ++ header ∷ behind
  pub blank : flat_map line_words before ≡ []
  pub header_is : SpellsHeader formula.vars count (line_words header)
  pub clauses_are : SpellClauses formula.vars count clauses (flat_map line_words behind)
  pub formula_is : formula.clauses ≡ map clause_from clauses

-- the text is DIMACS of the formula
abbrev pub IsDimacs : Cnf → List ℕ → Type 0
IsDimacs formula text = AreDimacs formula (lines text)
