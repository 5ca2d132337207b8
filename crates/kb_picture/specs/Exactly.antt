-- Sets: things that have inputs each, as paths have their instances, and choices the inputs that take them, or values of
-- variables, as conditions have those that meet them.
use Rattle.std.specs.Prelude.{◌⊎◌, List, [], ◌∷◌}

-- the input is in the set of none of these things
abbrev pub NoneHas : {A B : Type 0} → (A → B → Type 0) → List A → B → Type 0
NoneHas Has [] input = Unit {0}
NoneHas Has (first ∷ others) input = (Has first input → ⊥) × NoneHas Has others input

-- the input is in the set of exactly one of them
abbrev pub ExactlyOneHas : {A B : Type 0} → (A → B → Type 0) → List A → B → Type 0
ExactlyOneHas Has [] input = ⊥
ExactlyOneHas Has (first ∷ others) input =
    (Has first input × NoneHas Has others input) ⊎ ((Has first input → ⊥) × ExactlyOneHas Has others input)
