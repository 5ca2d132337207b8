-- Texts that are read byte by byte, and where they go wrong.
use Rattle.std.specs.Prelude.{◌≡◌, ℕ, suc, ◌<◌, ◌≤◌, Option, Some, List, [], ◌∷◌, ◌++◌, length, take, slice_index, None}
use Rattle.std.specs.Option.{option_and_then}

-- the first offset at which no text of that kind goes on; the text's length where it ends too early
pub record IsFirstBad (IsText : List ℕ → Type 0) (text : List ℕ) (at : ℕ) : Type 0 where
  pub within : at ≤ length text
  pub goes_on : (more : List ℕ) × IsText (take at text ++ more)
  pub no_further : at < length text → (tail : List ℕ) → IsText (take (suc at) text ++ tail) → ⊥
  pub no_text : IsText text → ⊥

-- where a reader that goes on by that step stands after those bytes, if each of them had a place
abbrev pub reached : {S : Type 0} → (S → ℕ → Option S) → S → List ℕ → Option S
reached step stage [] = Some stage
reached step stage (byte ∷ bytes) = option_and_then (λ next. reached step next bytes) (step stage byte)

-- the byte at that offset is the first that has no place
pub record StopsAt {S : Type 0} (step : S → ℕ → Option S) (start : S) (text : List ℕ) (at : ℕ) : Type 0 where
  pub inside : at < length text
  pub stage : S
  pub before : reached step start (take at text) ≡ Some stage
  pub none : step stage (slice_index text at) ≡ None

-- what a text is read as
abbrev pub value_of_text : {S V : Type 0} → (S → ℕ → Option S) → (S → Option V) → S → List ℕ → Option V
value_of_text step read start text = option_and_then read (reached step start text)

-- every byte has a place, and the text may not end there, at its length
pub record EndsEarly {S V : Type 0} (step : S → ℕ → Option S) (read : S → Option V) (start : S) (text : List ℕ) (at : ℕ) : Type 0 where
  pub end : at ≡ length text
  pub stage : S
  pub all : reached step start text ≡ Some stage
  pub none : read stage ≡ None
