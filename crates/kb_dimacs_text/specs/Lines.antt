-- Lines of a text and their words.
use Rattle.std.specs.Prelude.{ℕ, ◌==◌, nat_le, Bool, true, false, ◌&&◌, ◌||◌, List, [], ◌∷◌, if◌then◌else◌}
use Rattle.std.specs.List.{filter, slice_split}

-- what stands between line feeds; the last line is what stands behind the last one
abbrev pub lines : List ℕ → List (List ℕ)
lines text = slice_split (λ b. b == 10) text

-- a space, a tab, a line feed, a vertical tab, a form feed or a carriage return
abbrev pub is_white : ℕ → Bool
is_white byte = byte == 32 || (nat_le 9 byte && nat_le byte 13)

abbrev pub is_some_word : List ℕ → Bool
is_some_word [] = false
is_some_word (byte ∷ bytes) = true

-- what stands between white space
abbrev pub words : List ℕ → List (List ℕ)
words line = filter is_some_word (slice_split is_white line)

-- a comment line begins with `c`
abbrev pub is_comment : List ℕ → Bool
is_comment [] = false
is_comment (byte ∷ bytes) = byte == 99

-- the words of a line that count: a comment has none
unfoldable pub line_words : List ℕ → List (List ℕ)
line_words line = if is_comment line then [] else words line
