-- The slots of an object of a class (JVMS 8 sections 4.5 and 2.7): its instance fields, those of the superclass first, each
-- class's in the order of its file. Fields of other types than boolean, int, classes and arrays have none (own rule).
use Rattle.std.specs.Prelude.{ℕ, suc, Bool, true, false, ◌&&◌, not, List, [], ◌∷◌, map, filter, reverse, slice_get, slice_index_or, Option, Some, None}
use Rattle.std.specs.List.{flat_map}
use Rattle.kb_names.specs.declared.types.JType.{JType}
use Rattle.kb_names.specs.declared.types.JType.TheVariants as types
use Rattle.kb_class.specs.declared.members.FieldInfo.{FieldInfo}
use Rattle.kb_class.specs.Class.{Class}
use Rattle.kb_class.specs.Members.{is_static}
use Rattle.kb_classes.specs.declared.slots.FieldSlot.{FieldSlot}
use Rattle.kb_classes.specs.World.{World}

-- whether a value of the type has a slot
abbrev pub has_slot_type : JType → Bool
has_slot_type types.Bool = true
has_slot_type types.Int = true
has_slot_type (types.Class name) = true
has_slot_type (types.Array component) = true
has_slot_type _ = false

abbrev pub has_slot : FieldInfo → Bool
has_slot field = not (is_static field.access) && has_slot_type field.kind

-- a field with the number of the class that declares it
pub record Declared : Type 0 where
  pub class : ℕ
  pub field : FieldInfo

-- those of these fields of a class that have slots
abbrev pub slots_among : ℕ → List FieldInfo → List Declared
slots_among number fields = map (λ field. record { class = number; field = field }) (filter has_slot fields)

abbrev pub own_slots : ℕ → Class → List Declared
own_slots number class = slots_among number class.fields

abbrev pub own_slots_there : ℕ → Option Class → List Declared
own_slots_there number None = []
own_slots_there number (Some class) = own_slots number class

abbrev pub own_slots_at : List Class → ℕ → List Declared
own_slots_at classes number = own_slots_there number (slice_get classes number)

abbrev pub slot_of : ℕ → Declared → FieldSlot
slot_of slot declared =
    record { class = record { 0 = declared.class }; slot = slot; name = declared.field.name; kind = declared.field.kind }

-- numbered from a number on
abbrev pub numbered : ℕ → List Declared → List FieldSlot
numbered first [] = []
numbered first (declared ∷ others) = slot_of first declared ∷ numbered (suc first) others

-- the slots of the class at the end of a chain of superclasses
abbrev pub slots_along : List Class → List ℕ → List FieldSlot
slots_along classes chain = numbered 0 (flat_map (own_slots_at classes) (reverse chain))

-- the slots of a class
abbrev pub slots_of : World → ℕ → List FieldSlot
slots_of world number = slots_along world.classes (slice_index_or world.chains number [])
