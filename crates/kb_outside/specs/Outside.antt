-- What the contracts of shelves and sinks say of counts and bytes.
use Rattle.std.specs.Prelude.{◌≡◌, ℕ, Bool, ◌+◌, ◌-◌, ◌^◌, ◌<◌, ◌≤◌, min, Option, None, List, ◌++◌, length, take}
use Rattle.std.specs.Option.{option_map}

-- the number after n in a count that stops at the last value of a u64
abbrev pub next_count : ℕ → ℕ
next_count n = min (n + 1) (2 ^ 64 - 1)

-- the count rose between the two moments, or stands at its last value
abbrev pub Rose : ℕ → ℕ → Type 0
Rose before now = next_count before ≤ now

-- what is told of bytes that are not known
abbrev pub untold : Option (List ℕ)
untold = None

-- the bytes, where they are told, have gained the piece at their end
abbrev pub Grows : Option (List ℕ) → Option (List ℕ) → List ℕ → Type 0
Grows before now piece = now ≡ option_map (λ (bytes : List ℕ). bytes ++ piece) before

-- the bytes, where they are told, have gained a front of the text that is not the whole of it
abbrev pub GrowsByPart : Option (List ℕ) → Option (List ℕ) → List ℕ → Type 0
GrowsByPart before now text = (n : ℕ) × (n < length text) × Grows before now (take n text)

-- a sink over a writer: the writer, and the faults so far
pub record OutState (W : Type 0) : Type 0 where
  pub to : W
  pub faults : ℕ

-- a reader, and whether a read of it has failed
pub record WatchedState (F : Type 0) : Type 0 where
  pub from : F
  pub failed : Bool

-- no list in memory has more bytes
abbrev pub most_bytes : ℕ
most_bytes = 2 ^ 64
