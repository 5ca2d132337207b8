-- Types and their values: which values a slot, an element or a result of a type has, and how it keeps one (JVMS 8 sections 2.3,
-- 2.4, 2.7 and 6.5). A further type of ints joins as a further case of each definition here.
use Rattle.std.specs.Prelude.{◌≡◌, ◌⊎◌, ℕ, pos, Bool, true, false, List, [], ◌∷◌, map, is_some, Option, Some, None}
use Rattle.std.specs.Int.{w32}
use Rattle.std.specs.Int.RustNames.{FitsSigned}
use Rattle.std.specs.Option.{option_map_or}
use Rattle.kb_arith.specs.Word.{word_and}
use Rattle.kb_names.specs.declared.types.ExactType.TheVariants as exact
use Rattle.kb_names.specs.declared.types.JType.{JType}
use Rattle.kb_names.specs.declared.types.JType.TheVariants as types
use Rattle.kb_code.specs.declared.instruction.Elem.{Elem}
use Rattle.kb_code.specs.declared.instruction.Elem.TheVariants as elems
use Rattle.kb_heap.specs.declared.heap.Value.{Value}
use Rattle.kb_heap.specs.declared.heap.Value.TheVariants.{Int, Null, Ref}
use Rattle.kb_heap.specs.declared.heap.Object.{Object}
use Rattle.kb_heap.specs.declared.heap.Heap.{Heap}
use Rattle.kb_heap.specs.Heap.{object_at}
use Rattle.kb_classes.specs.World.{World, number_in}
use Rattle.kb_classes.specs.Slots.{slots_of}
use Rattle.kb_classes.specs.Subtypes.{fits}
use Rattle.kb_classes.specs.declared.slots.FieldSlot.{FieldSlot}

-- ---- values of a type

-- What a slot, an element or a result of the type keeps of a value: None where the value is of another kind. A boolean keeps
-- the low bit of an int (own for fields; bastore and ireturn of section 6.5). Which class an object has is not looked at.
abbrev pub kept : JType → Value → Option Value
kept types.Bool (Int z) = Some (Int (word_and z (pos 1)))
kept types.Int (Int z) = Some (Int z)
kept (types.Class name) Null = Some Null
kept (types.Class name) (Ref o) = Some (Ref o)
kept (types.Array component) Null = Some Null
kept (types.Array component) (Ref o) = Some (Ref o)
kept _ _ = None

-- whether the value has the kind of the type; a parameter takes it as it is
abbrev pub is_of_kind : JType → Value → Bool
is_of_kind type value = is_some (kept type value)

-- the default value of a slot or an element of the type (sections 2.3 and 2.4): null of a class or an array, else 0
abbrev pub default_of : JType → Value
default_of (types.Class name) = Null
default_of (types.Array component) = Null
default_of _ = Int (pos 0)

-- whether an array instruction of that kind takes arrays of the component: baload and bastore those of booleans
abbrev pub takes_component : Elem → JType → Bool
takes_component elems.Int types.Int = true
takes_component elems.Byte types.Bool = true
takes_component elems.Ref (types.Class name) = true
takes_component elems.Ref (types.Array component) = true
takes_component _ _ = false

-- ---- values in a heap

-- there is an object, and it is of the type
abbrev pub IsObjectOf : World → JType → Option Object → Type 0
IsObjectOf world type None = ⊥
IsObjectOf world type (Some object) = fits world object.kind type ≡ true

-- The value is one of the type in a heap: an int of 32 bits with sign (section 2.3.1), a boolean 0 or 1 (section 2.3.4), null or
-- an object of the type for a class or an array (section 2.4).
abbrev pub IsValueOf : World → Heap → JType → Value → Type 0
IsValueOf world heap types.Int (Int z) = FitsSigned w32 z
IsValueOf world heap types.Bool (Int z) = (z ≡ pos 0) ⊎ (z ≡ pos 1)
IsValueOf world heap (types.Class name) Null = Unit {0}
IsValueOf world heap (types.Class name) (Ref o) = IsObjectOf world (types.Class name) (object_at heap o)
IsValueOf world heap (types.Array component) Null = Unit {0}
IsValueOf world heap (types.Array component) (Ref o) = IsObjectOf world (types.Array component) (object_at heap o)
IsValueOf world heap type value = ⊥

-- each value is one of its type
abbrev pub AreValuesOf : World → Heap → List JType → List Value → Type 0
AreValuesOf world heap [] [] = Unit {0}
AreValuesOf world heap (type ∷ others) (value ∷ values) = IsValueOf world heap type value × AreValuesOf world heap others values
AreValuesOf world heap [] (value ∷ values) = ⊥
AreValuesOf world heap (type ∷ others) [] = ⊥

-- ---- objects

abbrev pub slots_of_class : World → List ℕ → List FieldSlot
slots_of_class world name = option_map_or (slots_of world) (number_in world.classes name) []

-- a new object of the class: each slot has its default value (new, section 6.5)
abbrev pub new_object : World → List ℕ → Object
new_object world name = record { kind = exact.Class name; values = map (λ (slot : FieldSlot). default_of slot.kind) (slots_of_class world name) }
