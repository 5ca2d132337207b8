-- What is asked of a path's conditions: whether they can all hold. The kinds of the variables are told by the types of their
-- slots (JVMS 8 section 2.3.4: a boolean is 0 or 1), and the conditions' terms are the first ones of the path.
use Rattle.std.specs.Prelude.{ℕ, List, length, take, Option, Some, None, slice_get, option_map, option_and_then}
use Rattle.std.specs.List.{filter_map}
use Rattle.kb_blast.specs.Query.{Query}
use Rattle.kb_class.specs.declared.ids.MethodId.{MethodId}
use Rattle.kb_classes.specs.World.{World}
use Rattle.kb_classes.specs.declared.slots.FieldSlot.{FieldSlot}
use Rattle.kb_names.specs.declared.types.ExactType.{ExactType}
use Rattle.kb_names.specs.declared.types.ExactType.TheVariants as exact
use Rattle.kb_names.specs.declared.types.JType.{JType}
use Rattle.kb_names.specs.declared.types.JType.TheVariants as types
use Rattle.kb_semantics.specs.Config.{info_of}
use Rattle.kb_semantics.specs.Inputs.{argument_types}
use Rattle.kb_semantics.specs.Values.{slots_of_class}
use Rattle.kb_terms.specs.declared.node.VarKind.{VarKind}
use Rattle.kb_terms.specs.declared.node.VarKind.TheVariants.{Int as IntKind, Bool as BoolKind}
use Rattle.kb_picture.specs.declared.picture.Origin.{Origin}
use Rattle.kb_picture.specs.declared.picture.Origin.TheVariants.{Arg, Field, Element}
use Rattle.kb_picture.specs.declared.picture.Seen.{Seen}
use Rattle.kb_picture.specs.declared.picture.PicObject.{PicObject}
use Rattle.kb_picture.specs.declared.picture.Picture.{Picture}
use Rattle.kb_picture.specs.declared.path.Path.{Path}
use Rattle.kb_picture.specs.Numbering.{met_from, condition_terms}
use Rattle.kb_picture.specs.WellFormed.{variable_seen}

-- ---- the types of slots

abbrev pub slot_of_class : World → ℕ → ExactType → Option JType
slot_of_class world slot (exact.Class name) = option_map (λ (field : FieldSlot). field.kind) (slice_get (slots_of_class world name) slot)
slot_of_class world slot (exact.Array component) = None

abbrev pub component_of : ExactType → Option JType
component_of (exact.Class name) = None
component_of (exact.Array component) = Some component

-- the declared type of a slot of the first heap of an input of the method
abbrev pub type_of_slot : World → MethodId → List PicObject → Origin → Option JType
type_of_slot world id objects (Arg number) = option_and_then (λ method. slice_get (argument_types world method) number) (info_of world id)
type_of_slot world id objects (Field object slot) = option_and_then (λ (o : PicObject). slot_of_class world slot o.kind) (slice_get objects object)
type_of_slot world id objects (Element array index) = option_and_then (λ (o : PicObject). component_of o.kind) (slice_get objects array)

-- ---- the query

-- a variable of a boolean slot is a boolean, and each other one is an int
abbrev pub kind_for : Option JType → VarKind
kind_for (Some types.Bool) = BoolKind
kind_for _ = IntKind

abbrev pub kind_seen : World → MethodId → Picture → Origin × Seen → Option VarKind
kind_seen world id picture slot = option_map (λ (number : ℕ). kind_for (type_of_slot world id picture.objects slot.0)) (variable_seen slot.1)

-- the kinds of the variables, in the order of reading
abbrev pub kinds_seen : World → MethodId → Picture → List VarKind
kinds_seen world id picture = filter_map (kind_seen world id picture) picture.seen

-- The query of a path's conditions: a walk that begins with the conditions meets their terms first.
unfoldable pub query_of_path : World → MethodId → Path → Query
query_of_path world id path = record {
  kinds = kinds_seen world id path.picture;
  terms = take (length (met_from path.terms (condition_terms path.when))) path.terms;
  conditions = path.when;
}
