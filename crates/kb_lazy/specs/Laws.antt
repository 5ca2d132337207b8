-- What the alternatives are to the inputs of a method: each input that has the picture takes exactly one of them.
use Rattle.std.specs.Prelude.{◌≡◌, ◌↔◌, ℕ, ◌<◌, ◌^◌, suc, Bool, true, Some, slice_get}
use Rattle.kb_class.specs.declared.ids.MethodId.{MethodId}
use Rattle.kb_class.specs.declared.members.MethodInfo.{MethodInfo}
use Rattle.kb_heap.specs.declared.bounds.Bounds.{Bounds}
use Rattle.kb_heap.specs.declared.heap.Input.{Input}
use Rattle.kb_link.specs.Links.{IsLinked}
use Rattle.kb_classes.specs.World.{World}
use Rattle.kb_names.specs.declared.types.JType.{JType}
use Rattle.kb_semantics.specs.Config.{info_of}
use Rattle.kb_semantics.specs.Inputs.{IsTypeCorrect}
use Rattle.kb_picture.specs.declared.choice.Choice.{Choice}
use Rattle.kb_picture.specs.declared.choice.Init.{Init}
use Rattle.kb_picture.specs.declared.picture.Origin.{Origin}
use Rattle.kb_picture.specs.declared.picture.Picture.{Picture}
use Rattle.kb_picture.specs.Accesses.{IsOpenAt, IsObjectFor}
use Rattle.kb_picture.specs.Depths.{IsBeyond}
use Rattle.kb_picture.specs.Exactly.{ExactlyOneHas}
use Rattle.kb_picture.specs.Growing.{IsUnread, IsReceiver, IsChoiceFor, params_of}
use Rattle.kb_picture.specs.Growth.{after_read, after_access}
use Rattle.kb_picture.specs.Queries.{type_of_slot}
use Rattle.kb_picture.specs.Shapes.{HasShape}
use Rattle.kb_picture.specs.WellTyped.{is_reference_type}
use Rattle.kb_lazy.specs.Choices.{read_choices_of, resolve_choices_of}

-- no slot and no location of the picture is beyond
abbrev pub HasNoBeyond : Picture → Type 0
HasNoBeyond picture = (slot : Origin) → IsBeyond picture slot → ⊥

-- an array within the bound, and one more element, is one that an int can count
abbrev pub IsInRange : ℕ → Type 0
IsInRange array = suc array < 2 ^ 31

-- arrays of the input and arrays that a run makes
pub record AreInRange (bounds : Bounds) : Type 0 where
  pub array : IsInRange bounds.array
  pub alloc : IsInRange bounds.run.alloc

-- In a well-formed picture of a method a slot of that declared type, a reference, is read for the first time; it is the
-- receiver's exactly where `receiver` is true.
pub record IsFirstRead (world : World) (id : MethodId) (picture : Picture) (slot : Origin) (type : JType) (receiver : Bool) : Type 0 where
  pub method : MethodInfo
  pub method_is : info_of world id ≡ Some method
  pub unread : IsUnread world (params_of world method) picture slot
  pub declared : type_of_slot world id picture.objects slot ≡ Some type
  pub reference : is_reference_type type ≡ true
  pub receives : (receiver ≡ true) ↔ IsReceiver world id slot

-- the input takes the choice: it has the picture's shape after it
abbrev pub Takes : Picture → Origin → Choice → Input → Type 0
Takes picture slot choice input = HasShape (after_read picture slot choice) input

-- Each type-correct input that has the shape of the picture takes exactly one alternative.
abbrev pub TakesExactlyOne : Type 0
TakesExactlyOne =
    (init : Init) (world : World) (id : MethodId) (picture : Picture) (slot : Origin) (type : JType) (receiver : Bool) (k array : ℕ) (input : Input)
    → IsLinked world → IsFirstRead world id picture slot type receiver → HasNoBeyond picture
    → IsTypeCorrect world id input → HasShape picture input
    → ExactlyOneHas (Takes picture slot) (read_choices_of init world picture slot type receiver k array) input

-- Each alternative is a choice for the slot: so the picture grows by it as by every choice.
abbrev pub ChoicesFit : Type 0
ChoicesFit =
    (init : Init) (world : World) (id : MethodId) (picture : Picture) (slot : Origin) (type : JType) (receiver : Bool) (k array i : ℕ) (choice : Choice)
    → IsFirstRead world id picture slot type receiver → IsInRange array
    → slice_get (read_choices_of init world picture slot type receiver k array) i ≡ Some choice
    → IsChoiceFor world id picture slot choice

-- ---- locations that are looked into

-- In a well-formed picture of a method the location of that number is open; it was read from the slot, which has that declared
-- type.
pub record IsAccess (world : World) (id : MethodId) (picture : Picture) (number : ℕ) (origin : Origin) (type : JType) : Type 0 where
  pub method : MethodInfo
  pub method_is : info_of world id ≡ Some method
  pub is_open : IsOpenAt world (params_of world method) picture number origin
  pub declared : type_of_slot world id picture.objects origin ≡ Some type

-- the input takes the choice: it has the picture's shape after it
abbrev pub TakesObject : Picture → ℕ → Choice → Input → Type 0
TakesObject picture number choice input = HasShape (after_access picture number choice) input

-- Each type-correct input that has the shape of the picture takes exactly one alternative.
abbrev pub TakesOneObject : Type 0
TakesOneObject =
    (world : World) (id : MethodId) (picture : Picture) (number : ℕ) (origin : Origin) (type : JType) (k array : ℕ) (input : Input)
    → IsLinked world → IsAccess world id picture number origin type → HasNoBeyond picture
    → IsTypeCorrect world id input → HasShape picture input
    → ExactlyOneHas (TakesObject picture number) (resolve_choices_of world picture number type k array) input

-- Each alternative is a choice for the location: so the picture binds it as by every choice.
abbrev pub ObjectsFit : Type 0
ObjectsFit =
    (world : World) (id : MethodId) (picture : Picture) (number : ℕ) (origin : Origin) (type : JType) (k array i : ℕ) (choice : Choice)
    → IsAccess world id picture number origin type → IsInRange array
    → slice_get (resolve_choices_of world picture number type k array) i ≡ Some choice
    → IsObjectFor world id picture origin choice
