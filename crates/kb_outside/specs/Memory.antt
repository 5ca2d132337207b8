-- What a shelf and a sink in memory are to their callers.
use Rattle.std.specs.Prelude.{◌≡◌, ℕ, ◌-◌, Option, Some, None, IsSome, List, [], ◌∷◌, ◌++◌, ◌⊎◌, if◌then◌else◌, Contains, min, take, length}
use Rattle.std.specs.Str.{bytes_eq}
use Rattle.kb_outside.specs.Outside.{next_count}

-- a shelf: its files, each a name and its bytes, the numbers of the calls that fail, the number of the
-- next call, and the faults so far
pub record ShelfState : Type 0 where
  pub files : List (List ℕ × List ℕ)
  pub fails : List ℕ
  pub calls : ℕ
  pub faults : ℕ

-- the bytes of the first file of that name
abbrev pub bytes_of : List (List ℕ × List ℕ) → List ℕ → Option (List ℕ)
bytes_of [] name = None
bytes_of (file ∷ files) name = if bytes_eq file.0 name then Some file.1 else bytes_of files name

-- the next call, if it is on this name, fails: its number is among those that fail, or there is no such file
abbrev pub FailsOn : ShelfState → List ℕ → Type 0
FailsOn shelf name = Contains shelf.fails shelf.calls ⊎ (bytes_of shelf.files name ≡ None)

-- no call on this name can fail
abbrev pub IsSoundName : ShelfState → List ℕ → Type 0
IsSoundName shelf name = (shelf.fails ≡ []) × IsSome (bytes_of shelf.files name)

-- the shelf after a call that did not fail
abbrev pub with_call : ShelfState → ShelfState
with_call shelf = record shelf { calls = next_count shelf.calls }

-- the shelf after a call that failed
abbrev pub with_failed_call : ShelfState → ShelfState
with_failed_call shelf = record shelf { calls = next_count shelf.calls; faults = next_count shelf.faults }

-- a sink: the bytes that it took, how many more it has room for, the most that it takes in a call, the
-- numbers of the calls that fail, the number of the next call, and the faults so far
pub record SinkState : Type 0 where
  pub bytes : List ℕ
  pub room : ℕ
  pub most : ℕ
  pub fails : List ℕ
  pub calls : ℕ
  pub faults : ℕ

-- the next call fails: its number is among those that fail, or there is no room
abbrev pub FailsNext : SinkState → Type 0
FailsNext sink = Contains sink.fails sink.calls ⊎ (sink.room ≡ 0)

-- how many bytes of the piece the next call takes, unless it fails
abbrev pub taken_of : SinkState → List ℕ → ℕ
taken_of sink piece = min (min sink.most sink.room) (length piece)

-- the sink after a call that took the first n bytes of the piece
abbrev pub with_taken : SinkState → List ℕ → ℕ → SinkState
with_taken sink piece n = record sink {
  bytes = sink.bytes ++ take n piece;
  room = sink.room - n;
  calls = next_count sink.calls;
}

-- the sink after a call that failed
abbrev pub with_failed_write : SinkState → SinkState
with_failed_write sink = record sink { calls = next_count sink.calls; faults = next_count sink.faults }
