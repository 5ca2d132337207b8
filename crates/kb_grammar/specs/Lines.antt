-- Texts that are lines, each with one line feed behind it, and where they go wrong.
use Rattle.std.specs.Prelude.{◌≡◌, ◌≢◌, ℕ, ◌+◌, Option, None, Some, List, [], ◌∷◌, ◌++◌, length}

-- each line with a line feed behind it
abbrev pub lines_text : List (List ℕ) → List ℕ
lines_text [] = []
lines_text (line ∷ lines) = line ++ 10 ∷ lines_text lines

-- the byte does not occur
abbrev pub Lacks : ℕ → List ℕ → Type 0
Lacks byte [] = Unit {0}
Lacks byte (first ∷ others) = (first ≢ byte) × Lacks byte others

-- what stands behind a part that ends at that byte: nothing, or the byte first
abbrev pub IsTail : ℕ → List ℕ → Type 0
IsTail end [] = Unit {0}
IsTail end (byte ∷ bytes) = byte ≡ end

-- none of them has a line feed
abbrev pub AreLines : List (List ℕ) → Type 0
AreLines [] = Unit {0}
AreLines (line ∷ lines) = Lacks 10 line × AreLines lines

-- the first line, from 1, at which no text of that kind goes on: some such text has the lines before it, and none
-- has that line too. A line that is cut short, and a line that is missing at the end, count as lines
pub record IsFirstBadLine (IsText : List ℕ → Type 0) (text : List ℕ) (number : ℕ) : Type 0 where
  pub before : List (List ℕ)
  pub rest : List ℕ
  pub are_lines : AreLines before
  pub number_is : number ≡ length before + 1
  pub is : text ≡ lines_text before ++ rest
  pub goes_on : (more : List ℕ) × IsText (lines_text before ++ more)
  pub no_further : (line tail more : List ℕ) → Lacks 10 line → rest ≡ line ++ 10 ∷ tail → IsText (lines_text before ++ (line ++ 10 ∷ more)) → ⊥
  pub no_text : IsText text → ⊥

-- what a reader of a text may answer: what the text spells, or none where it spells nothing
abbrev pub IsRead : {A : Type 0} → (A → List ℕ → Type 0) → List ℕ → Option A → Type 0
IsRead Spells text (Some value) = Spells value text
IsRead Spells text None = (value : _) → Spells value text → ⊥
