-- What holds of each picture that grows: it stays well-formed and keeps its types, whoever has its shape had the one before,
-- and earlier objects and locations keep their places.
use Rattle.std.specs.Prelude.{◌≡◌, ℕ, nat_eq, Bool, true, false, not, ◌&&◌, length, take, Some, slice_get}
use Rattle.std.specs.Option.{option_map_or}
use Rattle.kb_class.specs.Naming.{Has}
use Rattle.kb_class.specs.declared.ids.MethodId.{MethodId}
use Rattle.kb_class.specs.declared.members.MethodInfo.{MethodInfo}
use Rattle.kb_class.specs.Members.{is_static}
use Rattle.kb_heap.specs.declared.heap.Input.{Input}
use Rattle.kb_classes.specs.Subtypes.{fits}
use Rattle.kb_classes.specs.World.{World}
use Rattle.kb_names.specs.declared.types.ExactType.{ExactType}
use Rattle.kb_names.specs.declared.types.JType.{JType}
use Rattle.kb_semantics.specs.Config.{info_of}
use Rattle.kb_semantics.specs.Inputs.{argument_types}
use Rattle.kb_picture.specs.declared.choice.Choice.{Choice}
use Rattle.kb_picture.specs.declared.choice.Choice.TheVariants.{Null, Location, Alias, Fresh, Beyond}
use Rattle.kb_picture.specs.declared.picture.Origin.{Origin}
use Rattle.kb_picture.specs.declared.picture.Origin.TheVariants.{Arg, Field, Element}
use Rattle.kb_picture.specs.declared.picture.Length.{Length}
use Rattle.kb_picture.specs.declared.picture.PicObject.{PicObject}
use Rattle.kb_picture.specs.declared.picture.Picture.{Picture}
use Rattle.kb_picture.specs.declared.picture.PlaceLists.{PlaceLists}
use Rattle.kb_picture.specs.Finding.{IsFoundFirst}
use Rattle.kb_picture.specs.Growth.{after_read, after_int_read}
use Rattle.kb_picture.specs.Queries.{type_of_slot}
use Rattle.kb_picture.specs.Shapes.{HasShape, IsNoPlace}
use Rattle.kb_picture.specs.WellFormed.{IsPicture, IsSlot, IsLengthOf, slots_seen}
use Rattle.kb_picture.specs.WellTyped.{IsWellTyped, IsIntLength, SomeFits, is_int_type, is_reference_type}

-- ---- what can be read, and what can be chosen

-- how many arguments the method has, a receiver among them
abbrev pub params_of : World → MethodInfo → ℕ
params_of world method = length (argument_types world method)

-- The slot is there, in a picture of the inputs of a method with so many arguments, and was not read.
pub record IsUnread (world : World) (params : ℕ) (picture : Picture) (slot : Origin) : Type 0 where
  pub formed : IsPicture world params picture
  pub there : IsSlot world params picture.objects slot
  pub unread : Has (slots_seen picture) slot → ⊥

-- whether the slot is that of a receiver (JVMS 8 section 2.6.1), which is never null: a call on null throws (section 6.5,
-- invokevirtual)
abbrev pub is_receiver : World → MethodId → Origin → Bool
is_receiver world id (Arg number) = nat_eq number 0 && option_map_or (λ (method : MethodInfo). not (is_static method.access)) (info_of world id) false
is_receiver world id (Field object slot) = false
is_receiver world id (Element array index) = false

abbrev pub IsReceiver : World → MethodId → Origin → Type 0
IsReceiver world id slot = is_receiver world id slot ≡ true

-- the choice speaks of an object of the picture, or of a new one whose length goes with its type
abbrev pub IsChoiceIn : Picture → Choice → Type 0
IsChoiceIn picture Null = Unit {0}
IsChoiceIn picture Location = Unit {0}
IsChoiceIn picture (Alias number) = (object : PicObject) × (slice_get picture.objects number ≡ Some object)
IsChoiceIn picture (Fresh kind len) = IsLengthOf kind len
IsChoiceIn picture Beyond = Unit {0}
IsChoiceIn picture _ = ⊥

-- a slot of the type can hold what is chosen
abbrev pub ChoiceFits : World → Picture → JType → Choice → Type 0
ChoiceFits world picture type Null = Unit {0}
ChoiceFits world picture type Location = SomeFits world type
ChoiceFits world picture type (Alias number) = (object : PicObject) × (slice_get picture.objects number ≡ Some object) × (fits world object.kind type ≡ true)
ChoiceFits world picture type (Fresh kind len) = Has world.universe kind × (fits world kind type ≡ true) × IsIntLength len
ChoiceFits world picture type Beyond = SomeFits world type
ChoiceFits world picture type _ = ⊥

-- The choice is one for a reference of that declared type in the slot: null is none for a receiver.
pub record IsChoiceFor (world : World) (id : MethodId) (picture : Picture) (slot : Origin) (choice : Choice) : Type 0 where
  pub type : JType
  pub declared : type_of_slot world id picture.objects slot ≡ Some type
  pub reference : is_reference_type type ≡ true
  pub speaks : IsChoiceIn picture choice
  pub of_type : ChoiceFits world picture type choice
  pub receiver : IsReceiver world id slot → choice ≡ Null → ⊥

-- the slot holds an int or a boolean
pub record HoldsInt (world : World) (id : MethodId) (picture : Picture) (slot : Origin) : Type 0 where
  pub type : JType
  pub declared : type_of_slot world id picture.objects slot ≡ Some type
  pub int : is_int_type type ≡ true

-- ---- what stays

-- the first places are those that there were
pub record PlacesKept (picture : Picture) (before after : PlaceLists) : Type 0 where
  pub objects : take (length picture.objects) after.objects ≡ before.objects
  pub locs : take (length picture.locs) after.locs ≡ before.locs

-- Of a picture that grows by a choice where a reference is read:
pub record PicturesGrow : Type 0 where
  -- it stays well-formed
  pub formed : (world : World) (params : ℕ) (picture : Picture) (slot : Origin) (choice : Choice) → IsUnread world params picture slot → IsChoiceIn picture choice
      → IsPicture world params (after_read picture slot choice)
  -- what it sees was found first, where that was so
  pub found : (world : World) (params : ℕ) (picture : Picture) (slot : Origin) (choice : Choice) → IsUnread world params picture slot → IsFoundFirst picture
      → IsFoundFirst (after_read picture slot choice)
  -- it stays well-typed
  pub types : (world : World) (id : MethodId) (picture : Picture) (slot : Origin) (choice : Choice) → (typed : IsWellTyped world id picture)
      → IsUnread world (params_of world typed.method) picture slot → IsChoiceFor world id picture slot choice → IsWellTyped world id (after_read picture slot choice)
  -- whoever has the shape had the one before
  pub shape : (world : World) (params : ℕ) (picture : Picture) (slot : Origin) (choice : Choice) (input : Input) → IsUnread world params picture slot
      → HasShape (after_read picture slot choice) input → HasShape picture input
  -- and there the earlier places are those that they are now
  pub places : (world : World) (params : ℕ) (picture : Picture) (slot : Origin) (choice : Choice) (input : Input) → IsUnread world params picture slot
      → (before : HasShape picture input) (after : HasShape (after_read picture slot choice) input) → PlacesKept picture before.places after.places
  -- a new object is none of the earlier ones
  pub new : (world : World) (params : ℕ) (picture : Picture) (slot : Origin) (kind : ExactType) (len : Length) (input : Input) (place : ℕ) → IsUnread world params picture slot
      → (before : HasShape picture input) (after : HasShape (after_read picture slot (Fresh kind len)) input) → slice_get after.places.objects (length picture.objects) ≡ Some place
      → IsNoPlace before.places.objects place

-- Of a picture that grows by the first read of an int or a boolean the same.
pub record PicturesGrowByInts : Type 0 where
  pub formed : (world : World) (params : ℕ) (picture : Picture) (slot : Origin) → IsUnread world params picture slot → IsPicture world params (after_int_read picture slot)
  pub found : (world : World) (params : ℕ) (picture : Picture) (slot : Origin) → IsUnread world params picture slot → IsFoundFirst picture → IsFoundFirst (after_int_read picture slot)
  pub types : (world : World) (id : MethodId) (picture : Picture) (slot : Origin) → (typed : IsWellTyped world id picture)
      → IsUnread world (params_of world typed.method) picture slot → HoldsInt world id picture slot → IsWellTyped world id (after_int_read picture slot)
  pub shape : (picture : Picture) (slot : Origin) (input : Input) → HasShape (after_int_read picture slot) input → HasShape picture input
  pub places : (picture : Picture) (slot : Origin) (input : Input) → (before : HasShape picture input) (after : HasShape (after_int_read picture slot) input)
      → after.places ≡ before.places
