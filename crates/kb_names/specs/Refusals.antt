-- What the readers answer.
use Rattle.std.specs.Prelude.{◌≡◌, ℕ, List, Result, Ok, Err, Option, ◌⊎◌}
use Rattle.kb_names.specs.Reading.{IsFirstBad, StopsAt, EndsEarly}
use Rattle.kb_names.specs.declared.descriptors.NameRefusal.{NameRefusal}
use Rattle.kb_names.specs.declared.descriptors.NameRefusal.TheVariants.{BadDescriptor, NoMemory as no_memory}
use Rattle.kb_names.specs.declared.name_texts.NameTextRefusal.{NameTextRefusal}
use Rattle.kb_names.specs.declared.name_texts.NameTextRefusal.TheVariants.{BadName, NoMemory as no_memory_for_name}
use Rattle.kb_names.specs.declared.stages.TextStop.{TextStop}
use Rattle.kb_names.specs.declared.stages.TextStop.TheVariants.{At, NoMemory as stop_for_memory}

-- a byte has no place, unless memory ran out
abbrev pub StopsAs : {S : Type 0} → (S → ℕ → Option S) → S → List ℕ → TextStop → Type 0
StopsAs step start text (At at) = StopsAt step start text at
StopsAs step start text stop_for_memory = Unit {0}

-- a byte has no place or the text ends too early, unless memory ran out
abbrev pub RefusesAs : {S V : Type 0} → (S → ℕ → Option S) → (S → Option V) → S → List ℕ → TextStop → Type 0
RefusesAs step read start text (At at) = StopsAt step start text at ⊎ EndsEarly step read start text at
RefusesAs step read start text stop_for_memory = Unit {0}

-- the text is no descriptor of that kind from that offset on, unless memory ran out
abbrev pub RefusesDescriptor : (List ℕ → Type 0) → List ℕ → NameRefusal → Type 0
RefusesDescriptor IsText text (BadDescriptor at) = IsFirstBad IsText text at
RefusesDescriptor IsText text no_memory = Unit {0}

-- that value was read, unless memory ran out
abbrev pub ReadsDescriptor : {T : Type 0} → Result T NameRefusal → T → Type 0
ReadsDescriptor (Ok read) value = read ≡ value
ReadsDescriptor (Err (BadDescriptor at)) value = ⊥
ReadsDescriptor (Err no_memory) value = Unit {0}

-- the text is no name from that offset on, unless memory ran out
abbrev pub RefusesName : (List ℕ → Type 0) → List ℕ → NameTextRefusal → Type 0
RefusesName IsText text (BadName at) = IsFirstBad IsText text at
RefusesName IsText text no_memory_for_name = Unit {0}

-- that name was read, unless memory ran out
abbrev pub ReadsName : Result (List ℕ) NameTextRefusal → List ℕ → Type 0
ReadsName (Ok read) name = read ≡ name
ReadsName (Err (BadName at)) name = ⊥
ReadsName (Err no_memory_for_name) name = Unit {0}
