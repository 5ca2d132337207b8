-- The order in which the search picks variables.
use Rattle.std.specs.Prelude.{ℕ, ◌<◌, List}
use Rattle.std.specs.List.{All}

-- variables, which are from 1 on, with places in tables of this size
abbrev pub HavePlaces : ℕ → List ℕ → Type 0
HavePlaces size heap = All (λ v. (0 < v) × (v < size)) heap
