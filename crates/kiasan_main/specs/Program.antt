-- What the program owes for its words, and with which exit code it ends.
use Rattle.std.specs.Prelude.{◌≡◌, ℕ, List, Option}
use Rattle.kiasan.specs.Answers.{Owes}
use Rattle.kb_refusals.specs.StatusNumber.{status_number}
use Rattle.kb_refusals.specs.declared.status.Status.{Status}

-- the exit code where a word is not UTF-8, which is no status
abbrev pub not_utf8 : ℕ
not_utf8 = 71

-- The exit code is the number of a status that the top call owes to the words: over what the shelf holds and which of its names
-- are sound, how its count of faults went, and how the sink's bytes and its count went.
pub record EndsWith (words : List (List ℕ)) (holds : List ℕ → Option (List ℕ)) (sound : List ℕ → Type 0) (reads : ℕ × ℕ)
    (written : Option (List ℕ) × Option (List ℕ)) (writes : ℕ × ℕ) (code : ℕ) : Type 0 where
  pub status : Status
  pub owed : Owes words holds sound reads written writes status
  pub code_is : code ≡ status_number status
