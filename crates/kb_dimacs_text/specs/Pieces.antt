-- Pieces of a text, and those that are left of it.
use Rattle.std.specs.Prelude.{ℕ, ◌+◌, length, ◌==◌, Bool, List, [], Option, None, Some}
use Rattle.kb_dimacs_text.specs.Lines.{is_white, lines, words}
use Rattle.kb_dimacs_text.specs.declared.lines.Separator.{Separator}
use Rattle.kb_dimacs_text.specs.declared.lines.Separator.TheVariants.{LineFeed, White}

abbrev pub separates : Separator → ℕ → Bool
separates LineFeed byte = byte == 10
separates White byte = is_white byte

-- the lines of what is left, if something is
abbrev pub lines_left : Option (List ℕ) → List (List ℕ)
lines_left None = []
lines_left (Some text) = lines text

-- and its words
abbrev pub words_left : Option (List ℕ) → List (List ℕ)
words_left None = []
words_left (Some text) = words text

-- how many bytes are left, and 1 more where something is
abbrev pub bytes_left : Option (List ℕ) → ℕ
bytes_left None = 0
bytes_left (Some text) = length text + 1
