-- What can be chosen of a location when its object is looked into (Deng, Lee and Robby, ASE 2006), and what holds of the picture
-- after that: as of one that grows by what is read.
use Rattle.std.specs.Prelude.{◌≡◌, ℕ, length, Some, slice_get}
use Rattle.kb_class.specs.declared.ids.MethodId.{MethodId}
use Rattle.kb_heap.specs.declared.heap.Input.{Input}
use Rattle.kb_classes.specs.World.{World}
use Rattle.kb_names.specs.declared.types.ExactType.{ExactType}
use Rattle.kb_names.specs.declared.types.JType.{JType}
use Rattle.kb_picture.specs.declared.choice.Choice.{Choice}
use Rattle.kb_picture.specs.declared.choice.Choice.TheVariants.{Alias, Fresh, Beyond}
use Rattle.kb_picture.specs.declared.picture.Length.{Length}
use Rattle.kb_picture.specs.declared.picture.Origin.{Origin}
use Rattle.kb_picture.specs.declared.picture.Picture.{Picture}
use Rattle.kb_picture.specs.declared.picture.Standing.TheVariants.{Open}
use Rattle.kb_picture.specs.Finding.{IsFoundFirst}
use Rattle.kb_picture.specs.Growing.{IsChoiceIn, ChoiceFits, PlacesKept, params_of}
use Rattle.kb_picture.specs.Growth.{after_access}
use Rattle.kb_picture.specs.Queries.{type_of_slot}
use Rattle.kb_picture.specs.Shapes.{HasShape, IsNoPlace}
use Rattle.kb_picture.specs.WellFormed.{IsPicture}
use Rattle.kb_picture.specs.WellTyped.{IsWellTyped}

-- ---- what can be chosen

-- the location of that number was read from the slot, and is open
abbrev pub IsOpenFrom : Picture → ℕ → Origin → Type 0
IsOpenFrom picture number origin = slice_get picture.locs number ≡ Some (record { origin = origin; standing = Open })

-- It is so in a picture of the inputs of a method with so many arguments.
pub record IsOpenAt (world : World) (params : ℕ) (picture : Picture) (number : ℕ) (origin : Origin) : Type 0 where
  pub formed : IsPicture world params picture
  pub open_there : IsOpenFrom picture number origin

-- what is chosen is an object: one that was met, a new one, or one beyond
abbrev pub IsOfObject : Choice → Type 0
IsOfObject (Alias number) = Unit {0}
IsOfObject (Fresh kind len) = Unit {0}
IsOfObject Beyond = Unit {0}
IsOfObject _ = ⊥

-- The choice is one for a location that was read from the slot: it speaks of an object, which the slot's declared type allows.
pub record IsObjectFor (world : World) (id : MethodId) (picture : Picture) (origin : Origin) (choice : Choice) : Type 0 where
  pub type : JType
  pub declared : type_of_slot world id picture.objects origin ≡ Some type
  pub object : IsOfObject choice
  pub speaks : IsChoiceIn picture choice
  pub of_type : ChoiceFits world picture type choice

-- ---- what stays

-- Of a picture in which it was chosen which object a location is:
pub record PicturesBind : Type 0 where
  -- it stays well-formed
  pub formed : (world : World) (params : ℕ) (picture : Picture) (number : ℕ) (origin : Origin) (choice : Choice) → IsOpenAt world params picture number origin → IsChoiceIn picture choice
      → IsPicture world params (after_access picture number choice)
  -- what it sees was found first, where that was so
  pub found : (world : World) (params : ℕ) (picture : Picture) (number : ℕ) (origin : Origin) (choice : Choice) → IsOpenAt world params picture number origin → IsChoiceIn picture choice
      → IsFoundFirst picture → IsFoundFirst (after_access picture number choice)
  -- it stays well-typed
  pub types : (world : World) (id : MethodId) (picture : Picture) (number : ℕ) (origin : Origin) (choice : Choice) → (typed : IsWellTyped world id picture)
      → IsOpenAt world (params_of world typed.method) picture number origin → IsObjectFor world id picture origin choice → IsWellTyped world id (after_access picture number choice)
  -- whoever has the shape had the one before
  pub shape : (world : World) (params : ℕ) (picture : Picture) (number : ℕ) (origin : Origin) (choice : Choice) (input : Input) → IsOpenAt world params picture number origin
      → HasShape (after_access picture number choice) input → HasShape picture input
  -- and there the earlier places are those that they are now; so every location keeps its place
  pub places : (world : World) (params : ℕ) (picture : Picture) (number : ℕ) (origin : Origin) (choice : Choice) (input : Input) → IsOpenAt world params picture number origin
      → (before : HasShape picture input) (after : HasShape (after_access picture number choice) input) → PlacesKept picture before.places after.places × (after.places.locs ≡ before.places.locs)
  -- the place of the location is that of the object that it is, or of none
  pub alias : (world : World) (params : ℕ) (picture : Picture) (number object place : ℕ) (origin : Origin) (input : Input) → IsOpenAt world params picture number origin
      → (before : HasShape picture input) → HasShape (after_access picture number (Alias object)) input → slice_get before.places.locs number ≡ Some place
      → slice_get before.places.objects object ≡ Some place
  pub beyond : (world : World) (params : ℕ) (picture : Picture) (number place : ℕ) (origin : Origin) (input : Input) → IsOpenAt world params picture number origin
      → (before : HasShape picture input) → HasShape (after_access picture number Beyond) input → slice_get before.places.locs number ≡ Some place → IsNoPlace before.places.objects place
  -- a new object is none of the earlier ones, and its place is the location's
  pub new : (world : World) (params : ℕ) (picture : Picture) (number place : ℕ) (origin : Origin) (kind : ExactType) (len : Length) (input : Input) → IsOpenAt world params picture number origin
      → (before : HasShape picture input) (after : HasShape (after_access picture number (Fresh kind len)) input) → slice_get after.places.objects (length picture.objects) ≡ Some place
      → IsNoPlace before.places.objects place × (slice_get before.places.locs number ≡ Some place)
