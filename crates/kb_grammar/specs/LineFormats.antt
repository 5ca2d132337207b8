-- Formats of lines, and what a reader of such a text answers.
use Rattle.std.specs.Prelude.{◌≡◌, ℕ, List, ◌++◌, Result, Ok, Err}
use Rattle.kb_grammar.specs.Lines.{AreLines, lines_text, IsFirstBadLine}
use Rattle.kb_grammar.specs.declared.lines.LineRefusal.{LineRefusal}
use Rattle.kb_grammar.specs.declared.lines.LineRefusal.TheVariants.{BadLine, Stopped}

-- what a format of lines must have: some text goes on from each front, no line of a text has a line feed in it, and
-- lines spell one thing at most
pub record IsLineFormat {Front Whole : Type 0} (Spells : Whole → List (List ℕ) → Type 0) (StandsBehind : Front → List (List ℕ) → Type 0) : Type 0 where
  pub goes_on : (front : Front) (before : List (List ℕ)) → StandsBehind front before → (after : List (List ℕ)) × (whole : Whole) × Spells whole (before ++ after)
  pub are_lines : (whole : Whole) (lines : List (List ℕ)) → Spells whole lines → AreLines lines
  pub spells_one : (one other : Whole) (lines : List (List ℕ)) → Spells one lines → Spells other lines → one ≡ other

-- a grammar that says which lines spell a value, as one that says which text does
pub record SpellsByLines {A : Type 0} (Spells : A → List (List ℕ) → Type 0) (value : A) (text : List ℕ) : Type 0 where
  pub lines : List (List ℕ)
  pub spelled : Spells value lines
  pub is : text ≡ lines_text lines

-- this value was read, unless the reader stopped for a cause that is not in the text
abbrev pub ReadsByLines : {A S : Type 0} → Result A (LineRefusal S) → A → Type 0
ReadsByLines (Ok read) value = read ≡ value
ReadsByLines (Err (BadLine number)) value = ⊥
ReadsByLines (Err (Stopped stop)) value = Unit {0}

-- no text of that kind goes on at that line, unless the reader stopped for a cause that is not in the text
abbrev pub RefusesLines : {A S : Type 0} → (A → List (List ℕ) → Type 0) → List ℕ → LineRefusal S → Type 0
RefusesLines {A} Spells text (BadLine number) = IsFirstBadLine (λ t. (value : A) × SpellsByLines Spells value t) text number
RefusesLines Spells text (Stopped stop) = Unit {0}
