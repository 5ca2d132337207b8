-- Slots, as they stand in the lines of a report.
use Rattle.std.specs.Prelude.{ℕ, Bool, true, false, nat_lt, List, [], ◌++◌, codes, count_by, Option, None, option_and_then, slice_get}
use Rattle.std.specs.Option.{option_map_or}
use Rattle.std.specs.Fmt.{decimal}
use Rattle.std.specs.Str.{bytes_eq}
use Rattle.kb_class.specs.Class.{Class}
use Rattle.kb_class.specs.declared.members.FieldInfo.{FieldInfo}
use Rattle.kb_classes.specs.World.{World}
use Rattle.kb_classes.specs.declared.slots.FieldSlot.{FieldSlot}
use Rattle.kb_names.specs.Descriptors.{type_text}
use Rattle.kb_names.specs.Escapes.{name_text}
use Rattle.kb_names.specs.declared.class_names.Spelling.TheVariants.{Escaped}
use Rattle.kb_names.specs.declared.types.ExactType.{ExactType}
use Rattle.kb_names.specs.declared.types.ExactType.TheVariants as exact
use Rattle.kb_names.specs.declared.types.JType.{JType}
use Rattle.kb_semantics.specs.Config.{class_name}
use Rattle.kb_semantics.specs.Values.{slots_of_class}
use Rattle.kb_picture.specs.declared.picture.Origin.{Origin}
use Rattle.kb_picture.specs.declared.picture.Origin.TheVariants.{Arg, Field, Element}
use Rattle.kb_picture.specs.declared.picture.PicObject.{PicObject}

-- how many fields of that name the class declares, whether they have slots or not
abbrev pub fields_named : List ℕ → Class → ℕ
fields_named name class = count_by (λ (field : FieldInfo). bytes_eq name field.name) class.fields

-- whether another field of the class that declares this one has its name
abbrev pub has_namesake : World → FieldSlot → Bool
has_namesake world field = nat_lt 1 (option_map_or (fields_named field.name) (slice_get world.classes field.class.0) 0)

-- the descriptor behind a field's name, where the name alone does not tell it
abbrev pub kind_text : Bool → JType → List ℕ
kind_text true kind = codes ":" ++ type_text Escaped kind
kind_text false kind = []

-- a field by the class that declares it and its name, and by its descriptor where it has a namesake there
unfoldable pub field_text : World → FieldSlot → List ℕ
field_text world field = name_text (class_name world field.class.0) ++ (codes "." ++ (name_text field.name ++ kind_text (has_namesake world field) field.kind))

-- the field of that slot of an object of the exact type, where there is one
abbrev pub field_of_type : World → ℕ → ExactType → Option FieldSlot
field_of_type world slot (exact.Class name) = slice_get (slots_of_class world name) slot
field_of_type world slot (exact.Array component) = None

abbrev pub field_of : World → List PicObject → ℕ → ℕ → Option FieldSlot
field_of world objects object slot = option_and_then (λ (o : PicObject). field_of_type world slot o.kind) (slice_get objects object)

-- a slot: an argument, a field or an element of an object of the picture; where there is no such field, nothing behind the dot
unfoldable pub slot_text : World → List PicObject → Origin → List ℕ
slot_text world objects (Arg number) = codes "a" ++ decimal number
slot_text world objects (Field object slot) = codes "o" ++ (decimal object ++ (codes "." ++ option_map_or (field_text world) (field_of world objects object slot) []))
slot_text world objects (Element array index) = codes "o" ++ (decimal array ++ (codes "[" ++ (decimal index ++ codes "]")))
