-- When a picture keeps the types of a method's arguments and of the world's slots (The Java Virtual Machine Specification, Java
-- SE 8 Edition, sections 2.3, 2.4, 2.7 and 4.3.3; which exact types an object of an input may have is an own rule).
use Rattle.std.specs.Prelude.{◌≡◌, ◌<◌, ◌^◌, ℕ, suc, Bool, true, false, length, Option, Some, None, slice_get}
use Rattle.kb_class.specs.Naming.{Has}
use Rattle.kb_class.specs.declared.ids.MethodId.{MethodId}
use Rattle.kb_class.specs.declared.members.MethodInfo.{MethodInfo}
use Rattle.kb_class.specs.Members.{is_static}
use Rattle.kb_classes.specs.Subtypes.{fits}
use Rattle.kb_classes.specs.World.{World}
use Rattle.kb_names.specs.declared.types.ExactType.{ExactType}
use Rattle.kb_names.specs.declared.types.JType.{JType}
use Rattle.kb_names.specs.declared.types.JType.TheVariants as types
use Rattle.kb_semantics.specs.Config.{info_of}
use Rattle.kb_semantics.specs.Inputs.{argument_types}
use Rattle.kb_picture.specs.declared.picture.Origin.{Origin}
use Rattle.kb_picture.specs.declared.picture.Origin.TheVariants.{Arg}
use Rattle.kb_picture.specs.declared.picture.Seen.{Seen}
use Rattle.kb_picture.specs.declared.picture.Seen.TheVariants as seens
use Rattle.kb_picture.specs.declared.picture.Standing.{Standing}
use Rattle.kb_picture.specs.declared.picture.Standing.TheVariants as standings
use Rattle.kb_picture.specs.declared.picture.Length.{Length}
use Rattle.kb_picture.specs.declared.picture.Length.TheVariants.{Plain, Is, Above}
use Rattle.kb_picture.specs.declared.picture.PicLoc.{PicLoc}
use Rattle.kb_picture.specs.declared.picture.PicObject.{PicObject}
use Rattle.kb_picture.specs.declared.picture.Picture.{Picture}
use Rattle.kb_picture.specs.Queries.{type_of_slot}
use Rattle.kb_picture.specs.WellFormed.{IsPicture, LeadsTo, slots_seen}

-- ---- types

-- whether the values of the type are ints: a boolean is one too
abbrev pub is_int_type : JType → Bool
is_int_type types.Bool = true
is_int_type types.Int = true
is_int_type _ = false

-- whether they are references
abbrev pub is_reference_type : JType → Bool
is_reference_type (types.Class name) = true
is_reference_type (types.Array component) = true
is_reference_type _ = false

-- some object of an input is of the type
abbrev pub SomeFits : World → JType → Type 0
SomeFits world type = (kind : ExactType) × Has world.universe kind × (fits world kind type ≡ true)

-- ---- what is seen

-- a location that is no object of the picture yet is of a type that some object has; which types its object fits, where it is
-- one, is said of the object
abbrev pub StandingFits : World → JType → Standing → Type 0
StandingFits world type standings.Open = SomeFits world type
StandingFits world type standings.Beyond = SomeFits world type
StandingFits world type (standings.Obj number) = Unit {0}

abbrev pub LocFits : World → JType → Option PicLoc → Type 0
LocFits world type None = ⊥
LocFits world type (Some loc) = StandingFits world type loc.standing

-- a slot of the type can be seen so
abbrev pub SeenFits : World → Picture → JType → Seen → Type 0
SeenFits world picture type (seens.Int number) = is_int_type type ≡ true
SeenFits world picture type seens.Null = is_reference_type type ≡ true
SeenFits world picture type (seens.Loc number) = (is_reference_type type ≡ true) × LocFits world type (slice_get picture.locs number)
SeenFits world picture type (seens.Obj number) = is_reference_type type ≡ true
SeenFits world picture type seens.Beyond = (is_reference_type type ≡ true) × SomeFits world type

abbrev pub SeenFitsDeclared : World → Picture → Option JType → Seen → Type 0
SeenFitsDeclared world picture None seen = ⊥
SeenFitsDeclared world picture (Some type) seen = SeenFits world picture type seen

-- ---- lengths

-- an array has so many elements as an int can count (arraylength, section 6.5); one that is longer than n has one more than n
abbrev pub IsIntLength : Length → Type 0
IsIntLength Plain = Unit {0}
IsIntLength (Is n) = n < 2 ^ 31
IsIntLength (Above n) = suc n < 2 ^ 31

-- ---- pictures

-- A picture that keeps the types of a method of the world. Arguments may be unread.
pub record IsWellTyped (world : World) (id : MethodId) (picture : Picture) : Type 0 where
  pub method : MethodInfo
  pub method_is : info_of world id ≡ Some method
  -- it is well-formed; so an object has a length exactly where it is an array
  pub formed : IsPicture world (length (argument_types world method)) picture
  -- each slot is seen as its declared type allows; one that is open or beyond has some exact type that fits
  pub seen : (i : ℕ) (slot : Origin × Seen) → slice_get picture.seen i ≡ Some slot
      → SeenFitsDeclared world picture (type_of_slot world id picture.objects slot.0) slot.1
  -- a receiver is not null
  pub receiver : is_static method.access ≡ false → Has picture.seen (Arg 0, seens.Null) → ⊥
  -- each object may be one of an input, and is of the declared types of all slots that lead to it
  pub universe : (number : ℕ) (object : PicObject) → slice_get picture.objects number ≡ Some object → Has world.universe object.kind
  pub objects : (number : ℕ) (object : PicObject) (slot : Origin) (type : JType) → slice_get picture.objects number ≡ Some object
      → LeadsTo picture slot number → type_of_slot world id picture.objects slot ≡ Some type → fits world object.kind type ≡ true
  pub lengths : (number : ℕ) (object : PicObject) → slice_get picture.objects number ≡ Some object → IsIntLength object.length

-- the receiver of a method that has one was read
abbrev pub IsReceiverSeen : World → MethodId → Picture → Type 0
IsReceiverSeen world id picture =
    (method : MethodInfo) → info_of world id ≡ Some method → is_static method.access ≡ false → Has (slots_seen picture) (Arg 0)
