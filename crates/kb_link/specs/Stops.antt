-- Walks over superclasses and interfaces that stop at a refusal.
use Rattle.std.specs.Prelude.{◌≡◌, ◌⊎◌, ℕ, List, Some, map, slice_get}
use Rattle.kb_class.specs.Class.{Class}
use Rattle.kb_classes.specs.declared.refusal.LinkRefusal.{LinkRefusal}
use Rattle.kb_classes.specs.declared.refusal.LinkRefusal.TheVariants as refusals
use Rattle.kb_classes.specs.Subtypes.{Claim}
use Rattle.kb_classes.specs.Rules.{IsFirst, IsMissing, IsBad, name_of}

-- the refusal of the name of that class, unless memory ran out
abbrev pub NamesClass : (List ℕ → LinkRefusal) → List Class → ℕ → LinkRefusal → Type 0
NamesClass refusal classes number told =
    ((name : List ℕ) × (slice_get (map name_of classes) number ≡ Some name) × (told ≡ refusal name)) ⊎ (told ≡ refusals.NoMemory)

-- the name of the first of these that no class has, unless memory ran out
abbrev pub StopsAtMissing : List Class → List (List ℕ) → LinkRefusal → Type 0
StopsAtMissing classes names (refusals.Missing name) = IsFirst (IsMissing classes) names name
StopsAtMissing classes names refusals.NoMemory = Unit {0}
StopsAtMissing classes names _ = ⊥

-- the name of the first bad one of these, unless memory ran out
abbrev pub StopsAtBad : List Class → List Claim → LinkRefusal → Type 0
StopsAtBad classes claims (refusals.BadSuper name) = (claim : Claim) × (claim.name ≡ name) × IsFirst (IsBad classes) claims claim
StopsAtBad classes claims refusals.NoMemory = Unit {0}
StopsAtBad classes claims _ = ⊥
