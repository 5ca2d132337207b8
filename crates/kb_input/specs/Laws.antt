-- What the input of a picture is: type-correct, of the picture's shape, and with the values that were given.
use Rattle.std.specs.Prelude.{◌≡◌, ℕ, ℤ, List, length, Some, slice_get}
use Rattle.kb_blast.specs.Meaning.{KindFits, AreMet, listed_values}
use Rattle.kb_class.specs.declared.ids.MethodId.{MethodId}
use Rattle.kb_heap.specs.declared.heap.Input.{Input}
use Rattle.kb_link.specs.Links.{IsLinked}
use Rattle.kb_classes.specs.World.{World}
use Rattle.kb_semantics.specs.Inputs.{IsTypeCorrect}
use Rattle.kb_terms.specs.declared.node.VarKind.{VarKind}
use Rattle.kb_world.specs.Reach.{IsAccepted}
use Rattle.kb_picture.specs.declared.path.Path.{Path}
use Rattle.kb_picture.specs.declared.picture.Picture.{Picture}
use Rattle.kb_picture.specs.Instances.{IsInstance, variable_values}
use Rattle.kb_picture.specs.Queries.{kinds_seen}
use Rattle.kb_picture.specs.Shapes.{HasShape}
use Rattle.kb_picture.specs.WellTyped.{IsWellTyped, IsReceiverSeen}
use Rattle.kb_input.specs.Emitted.{emitted_input}

-- one value for each variable of the picture, which it can be: 0 or 1 where its slot is a boolean's
pub record AreValuesFor (world : World) (id : MethodId) (picture : Picture) (values : List ℤ) : Type 0 where
  pub count : length values ≡ length (kinds_seen world id picture)
  pub each : (number : ℕ) (kind : VarKind) (value : ℤ) → slice_get (kinds_seen world id picture) number ≡ Some kind → slice_get values number ≡ Some value → KindFits kind value

-- what a picture and values must be for an input of the method
pub record HasInput (world : World) (id : MethodId) (picture : Picture) (values : List ℤ) : Type 0 where
  pub linked : IsLinked world
  pub accepted : IsAccepted world id
  pub typed : IsWellTyped world id picture
  pub receiver : IsReceiverSeen world id picture
  pub values_are : AreValuesFor world id picture values

-- the input is one of the method, it has the picture's shape, and its variables have these values
pub record IsOfPicture (world : World) (id : MethodId) (picture : Picture) (values : List ℤ) (input : Input) : Type 0 where
  pub correct : IsTypeCorrect world id input
  pub shape : HasShape picture input
  pub variables : variable_values picture input shape.places.objects ≡ values

-- The emitted input is such.
abbrev pub InputsAreOfPictures : Type 0
InputsAreOfPictures =
    (world : World) (id : MethodId) (picture : Picture) (values : List ℤ) → HasInput world id picture values
    → IsOfPicture world id picture values (emitted_input world id picture values)

-- So it is an instance of each path with that picture whose conditions the values make true.
abbrev pub InputsAreInstances : Type 0
InputsAreInstances =
    (world : World) (id : MethodId) (path : Path) (values : List ℤ) → HasInput world id path.picture values
    → AreMet (listed_values values path.terms) path.when → IsInstance path (emitted_input world id path.picture values)
