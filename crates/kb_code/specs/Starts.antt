-- A table of the offsets at which instructions begin.
use Rattle.std.specs.Prelude.{◌≡◌, ℕ, ◌<◌, pos, negsuc, Bool, false, List, length, slice_get, unwrap_or}
use Rattle.std.specs.List.{AllByRecursion}
use Rattle.kb_code.specs.Listing.{begins}
use Rattle.kb_code.specs.Answers.{Starts}

-- each offset is below the size
abbrev pub AreWithin : {A : Type 0} → ℕ → List (ℕ × A) → Type 0
AreWithin size items = AllByRecursion (λ item. item.0 < size) items

-- what the table says of an offset
abbrev pub marked : List Bool → ℕ → Bool
marked table at = unwrap_or (slice_get table at) false

abbrev pub starts_in : List Bool → Starts
starts_in table (pos at) = marked table at
starts_in table (negsuc below) = false

-- the table says of each offset whether an instruction begins there
pub record IsTableOf {A : Type 0} (items : List (ℕ × A)) (size : ℕ) (table : List Bool) : Type 0 where
  pub len : length table ≡ size
  pub each : (at : ℕ) → marked table at ≡ begins items at
