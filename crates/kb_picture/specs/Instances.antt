-- The instances of a path: the inputs whose first heap has the path's shape and whose ints meet its conditions (the path
-- condition of symbolic execution: King, 1976).
use Rattle.std.specs.Prelude.{ℕ, ℤ, pos, List, take, Option, Some, None}
use Rattle.std.specs.List.{filter_map}
use Rattle.std.specs.Option.{option_map_or}
use Rattle.kb_blast.specs.Meaning.{listed_values, AreMet}
use Rattle.kb_class.specs.declared.ids.MethodId.{MethodId}
use Rattle.kb_heap.specs.declared.heap.Value.{Value}
use Rattle.kb_heap.specs.declared.heap.Input.{Input}
use Rattle.kb_classes.specs.World.{World}
use Rattle.kb_semantics.specs.Inputs.{IsTypeCorrect}
use Rattle.kb_semantics.specs.Operands.{int_of}
use Rattle.kb_picture.specs.declared.picture.Seen.{Seen}
use Rattle.kb_picture.specs.declared.picture.Seen.TheVariants.{Int, Null, Loc, Obj, Beyond}
use Rattle.kb_picture.specs.declared.picture.Picture.{Picture}
use Rattle.kb_picture.specs.declared.path.Path.{Path}
use Rattle.kb_picture.specs.Places.{slot_value}
use Rattle.kb_picture.specs.Shapes.{HasShape}

-- the int that a variable has for an input, where the slot is seen as one
abbrev pub variable_value : Option Value → Seen → Option ℤ
variable_value value (Int number) = Some (option_map_or (λ z. z) (int_of value) (pos 0))
variable_value value Null = None
variable_value value (Loc number) = None
variable_value value (Obj number) = None
variable_value value Beyond = None

-- The values of the variables for an input, where `places` are the places of the picture's objects: each is what its slot holds
-- in the first heap. The variables are numbered in the order of reading, so that they are those of the slots seen as ints.
unfoldable pub variable_values : Picture → Input → List ℕ → List ℤ
variable_values picture input places = filter_map (λ slot. variable_value (slot_value input places slot.0) slot.1) picture.seen

-- the values of a path's terms for an input
unfoldable pub term_values : Path → Input → List ℕ → List ℤ
term_values path input places = listed_values (variable_values path.picture input places) path.terms

-- An input is an instance of a path; that it is type-correct is said beside it.
pub record IsInstance (path : Path) (input : Input) : Type 0 where
  pub shape : HasShape path.picture input
  -- each condition has its stated truth
  pub conditions : AreMet (term_values path input shape.places.objects) path.when

-- the path with the first so many of its conditions
abbrev pub with_conditions : Path → ℕ → Path
with_conditions path count = record path { when = take count path.when }

-- A short instance of a path for a number of conditions: an input that is type-correct for the method, and an instance of the
-- path with so many of its conditions.
pub record IsShortInstance (world : World) (method : MethodId) (path : Path) (count : ℕ) (input : Input) : Type 0 where
  pub correct : IsTypeCorrect world method input
  pub instance_of : IsInstance (with_conditions path count) input
