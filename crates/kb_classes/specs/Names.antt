-- The names of classes in order, added one after the other.
use Rattle.std.specs.Prelude.{◌≡◌, ℕ, ◌+◌, ◌<◌, ◌^◌, List, [], ◌∷◌, ◌++◌, None, Some, length, map, slice_get}
use Rattle.indexmap.specs.IndexSet.{IndexSet}
use Rattle.kb_class.specs.Class.{Class}
use Rattle.kb_classes.specs.declared.refusal.LinkRefusal.{LinkRefusal}
use Rattle.kb_classes.specs.declared.refusal.LinkRefusal.TheVariants as refusals
use Rattle.kb_classes.specs.World.{number_in}
use Rattle.kb_classes.specs.Rules.{HaveDifferentNames, name_of}

-- the keys are the names of the classes, in order
pub record HasNames {S : Type 0} (names : IndexSet (List ℕ) S) (classes : List Class) : Type 0 where
  pub each : names.keys ≡ map name_of classes
  pub few : length classes < 2 ^ 32

-- a class has the name already, unless memory ran out
abbrev pub StopsAtAgain : List Class → Class → LinkRefusal → Type 0
StopsAtAgain classes class (refusals.Twice name) =
    (name ≡ class.name) × (first : ℕ) × (slice_get (map name_of classes) first ≡ Some name)
StopsAtAgain classes class refusals.NoMemory = Unit {0}
StopsAtAgain classes class _ = ⊥

-- With the name the names are those of one class more, which no class before it has.
abbrev pub AddsNewName : {S : Type 0} → IndexSet (List ℕ) S → IndexSet (List ℕ) S → List ℕ → Type 0
AddsNewName before after name =
    (classes : List Class) (class : Class) → class.name ≡ name → number_in classes name ≡ None → length classes + 1 < 2 ^ 32
    → HaveDifferentNames classes → HasNames before classes
    → HaveDifferentNames (classes ++ class ∷ []) × HasNames after (classes ++ class ∷ [])

-- With the name the names are those of one class more.
abbrev pub AddsName : {S : Type 0} → IndexSet (List ℕ) S → IndexSet (List ℕ) S → List ℕ → Type 0
AddsName before after name =
    (classes : List Class) (class : Class) → class.name ≡ name → length classes + 1 < 2 ^ 32
    → HaveDifferentNames classes → HasNames before classes
    → HaveDifferentNames (classes ++ class ∷ []) × HasNames after (classes ++ class ∷ [])

-- A class of these names has this one already, unless memory ran out.
abbrev pub HasName : {S : Type 0} → IndexSet (List ℕ) S → List ℕ → LinkRefusal → Type 0
HasName names name told =
    (classes : List Class) (class : Class) → class.name ≡ name → HasNames names classes → StopsAtAgain classes class told
