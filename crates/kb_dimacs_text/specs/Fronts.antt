-- Where a reader of DIMACS stands.
use Rattle.std.specs.Prelude.{◌≡◌, ◌≢◌, ℕ, ◌<◌, ◌≤◌, ◌^◌, ℤ, List, [], ◌∷◌, ◌++◌, length, map}
use Rattle.std.specs.List.{flat_map}
use Rattle.std.specs.Int.RustNames.{FitsSigned}
use mir.Syntax.{w32}
use Rattle.kb_chain.specs.Literal.{literal_of}
use Rattle.kb_chain.specs.Cnf.{Cnf}
use Rattle.kb_dimacs_text.specs.Lines.{line_words}
use Rattle.kb_dimacs_text.specs.Numbers.{SpellsDimacsNumber, SpellNumbers}
use Rattle.kb_dimacs_text.specs.Dimacs.{AreLiterals, AreClauses, all_written, clause_from, SpellsHeader, SpellClauses, AreDimacs}
use Rattle.kb_dimacs_text.specs.declared.body.Body.{Body}
use Rattle.kb_dimacs_text.specs.declared.refusal.Cause.{Cause}
use Rattle.kb_dimacs_text.specs.declared.refusal.Cause.TheVariants.{Header, NoNumber, HighVariable, MoreClauses, EarlyEnd}
use Rattle.kb_dimacs_text.specs.declared.refusal.ReadingStop.{ReadingStop}
use Rattle.kb_dimacs_text.specs.declared.refusal.ReadingStop.TheVariants.{Bad, NoMemory as no_memory}
use Rattle.kb_dimacs_text.specs.declared.front.Front.{Front}
use Rattle.kb_dimacs_text.specs.declared.front.Front.TheVariants.{Start, Behind}

-- these words stand behind the header: those of whole clauses, and the literals of one that is open
pub record HoldsWords (body : Body) (words : List (List ℕ)) : Type 0 where
  pub clauses : List (List ℤ)
  pub numbers : List ℤ
  pub words_are : SpellNumbers (all_written clauses ++ numbers) words
  pub count_fits : body.count < 2 ^ 31
  pub are_clauses : AreClauses body.formula.vars clauses
  pub are_literals : AreLiterals body.formula.vars numbers
  pub formula_is : body.formula.clauses ≡ map clause_from clauses
  pub literals_are : body.literals.items ≡ map literal_of numbers
  pub few : length clauses ≤ body.count
  pub full : length clauses ≡ body.count → numbers ≡ []

-- the announced clauses are all there
abbrev pub AreAllThere : ℕ → ℕ → List (List ℕ) → Type 0
AreAllThere vars count read = (clauses : List (List ℤ)) × SpellClauses vars count clauses read

-- what is wrong with a word behind the header and these words: the announced clauses are all there; or they are not, and it is
-- no number of 32 bits; or it is one, and its variable is above the announced ones
abbrev pub IsWordCause : ℕ → ℕ → List (List ℕ) → List ℕ → Cause → Type 0
IsWordCause vars count read word MoreClauses = AreAllThere vars count read
IsWordCause vars count read word NoNumber =
    (AreAllThere vars count read → ⊥) × ((number : ℤ) → FitsSigned w32 number → SpellsDimacsNumber number word → ⊥)
IsWordCause vars count read word HighVariable =
    (AreAllThere vars count read → ⊥) × (number : ℤ) × FitsSigned w32 number × SpellsDimacsNumber number word × (vars < (literal_of number).variable)
IsWordCause vars count read word Header = ⊥
IsWordCause vars count read word EarlyEnd = ⊥

-- nothing is wrong with any of the words
abbrev pub AreFine : ℕ → ℕ → List (List ℕ) → List (List ℕ) → Type 0
AreFine vars count read words =
    (before : List (List ℕ)) (word : List ℕ) (behind : List (List ℕ)) → words ≡ before ++ word ∷ behind
    → (cause : Cause) → IsWordCause vars count (read ++ before) word cause → ⊥

-- what is wrong with the first of the words with which something is wrong
pub record HasBadWord (vars count : ℕ) (read words : List (List ℕ)) (cause : Cause) : Type 0 where
  pub before : List (List ℕ)
  pub word : List ℕ
  pub behind : List (List ℕ)
  pub words_are : words ≡ before ++ word ∷ behind
  pub fine : AreFine vars count read before
  pub is : IsWordCause vars count (read ++ before) word cause

-- no clauses of that body go on with these words, one of which is wrong
abbrev pub StopsAtWords : Body → List (List ℕ) → ReadingStop → Type 0
StopsAtWords body words (Bad cause) =
    (read : List (List ℕ)) → HoldsWords body read → HasBadWord body.formula.vars body.count read words cause
    × ((more : List (List ℕ)) (clauses : List (List ℤ)) → SpellClauses body.formula.vars body.count clauses (read ++ (words ++ more)) → ⊥)
StopsAtWords body words no_memory = Unit {0}

-- these lines were read
pub record HasReadBehind (body : Body) (ls : List (List ℕ)) : Type 0 where
  pub before : List (List ℕ)
  pub header : List ℕ
  pub behind : List (List ℕ)
  pub lines_are : ls ≡ before ++ header ∷ behind
  pub blank : flat_map line_words before ≡ []
  pub header_is : SpellsHeader body.formula.vars body.count (line_words header)
  pub holds : HoldsWords body (flat_map line_words behind)

abbrev pub HasRead : Front → List (List ℕ) → Type 0
HasRead Start ls = flat_map line_words ls ≡ []
HasRead (Behind body) ls = HasReadBehind body ls

-- a line behind lines with a header has a wrong word
pub record HasBadLine (ls : List (List ℕ)) (line : List ℕ) (cause : Cause) : Type 0 where
  pub before : List (List ℕ)
  pub header : List ℕ
  pub behind : List (List ℕ)
  pub vars : ℕ
  pub count : ℕ
  pub lines_are : ls ≡ before ++ header ∷ behind
  pub blank : flat_map line_words before ≡ []
  pub header_is : SpellsHeader vars count (line_words header)
  pub bad : HasBadWord vars count (flat_map line_words behind) (line_words line) cause

-- what is wrong with a line behind these lines: it is the first that has words, and no header; or a word of it is wrong
abbrev pub IsLineCause : List (List ℕ) → List ℕ → Cause → Type 0
IsLineCause ls line Header =
    (flat_map line_words ls ≡ []) × (line_words line ≢ []) × ((vars count : ℕ) → SpellsHeader vars count (line_words line) → ⊥)
IsLineCause ls line NoNumber = HasBadLine ls line NoNumber
IsLineCause ls line HighVariable = HasBadLine ls line HighVariable
IsLineCause ls line MoreClauses = HasBadLine ls line MoreClauses
IsLineCause ls line EarlyEnd = ⊥

-- no DIMACS text goes on with this line, and what is wrong with it
abbrev pub StopsAtLine : Front → List ℕ → ReadingStop → Type 0
StopsAtLine front line (Bad cause) =
    (ls : List (List ℕ)) → HasRead front ls → IsLineCause ls line cause × ((more : List (List ℕ)) (formula : Cnf) → AreDimacs formula (ls ++ line ∷ more) → ⊥)
StopsAtLine front line no_memory = Unit {0}

-- a DIMACS text may begin with these lines
abbrev pub BeginsDimacs : List (List ℕ) → Type 0
BeginsDimacs ls = (more : List (List ℕ)) × (formula : Cnf) × AreDimacs formula (ls ++ more)
