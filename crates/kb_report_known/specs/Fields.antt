-- The fields that have slots, as a slot of a report names them, and which objects have them (JVMS 8 sections 4.5 and 2.7: an
-- object of a class has the instance fields that the class declares, and those that the classes above it declare).
use Rattle.std.specs.Prelude.{◌≡◌, ℕ, ◌<◌, ◌≤◌, ◌==◌, ◌&&◌, nat_lt, Bool, true, false, List, [], length, slice_get, Some}
use Rattle.std.specs.List.{list_any}
use Rattle.std.specs.Option.{option_map_or}
use Rattle.kb_classes.specs.Slots.{slots_of}
use Rattle.kb_classes.specs.World.{World, chain_of, number_in}
use Rattle.kb_classes.specs.declared.slots.FieldSlot.{FieldSlot}
use Rattle.kb_names.specs.declared.types.ExactType.{ExactType}
use Rattle.kb_names.specs.declared.types.ExactType.TheVariants as exact
use Rattle.kb_report_text.specs.Slots.{field_text}
use Rattle.kb_semantics.specs.Values.{slots_of_class}
use Rattle.kb_report_known.specs.declared.fields.FieldAt.{FieldAt}

-- ---- fields and their texts

abbrev pub field_at : FieldSlot → FieldAt
field_at field = record { class = field.class; slot = field.slot }

-- it is the field that the class declares and that has the slot in its objects
pub record IsFieldAt (world : World) (at : FieldAt) (field : FieldSlot) : Type 0 where
  pub inside : at.class.0 < length world.classes
  pub there : slice_get (slots_of world at.class.0) at.slot ≡ Some field
  pub declares : field.class.0 ≡ at.class.0

-- the text is that of the field
abbrev pub IsTextOf : World → List ℕ → FieldAt → Type 0
IsTextOf world text at = (field : FieldSlot) × IsFieldAt world at field × (text ≡ field_text world field)

-- ---- objects that have a field

-- whether the class of that number is the other one, or below it
abbrev pub is_class_below : World → ℕ → ℕ → Bool
is_class_below world low high = list_any (λ above. above == high) (chain_of world low)

-- the same where the first class is there
abbrev pub is_there_below : World → ℕ → ℕ → Bool
is_there_below world low high = nat_lt low (length world.classes) && is_class_below world low high

-- whether the class of that number is the class of a name, or above it
abbrev pub is_below : World → List ℕ → ℕ → Bool
is_below world name high = list_any (λ above. above == high) (option_map_or (chain_of world) (number_in world.classes name) [])

-- whether an object of the exact type has the field
abbrev pub has_field_at : World → ExactType → FieldAt → Bool
has_field_at world (exact.Class name) at = is_below world name at.class.0
has_field_at world (exact.Array component) at = false

-- So many slots at most an object has that has the field, and some class has so many.
pub record IsMost (world : World) (at : FieldAt) (most : ℕ) : Type 0 where
  pub least : (field : FieldSlot) → IsFieldAt world at field → (name : List ℕ) → is_below world name at.class.0 ≡ true → length (slots_of_class world name) ≤ most
  pub some : (field : FieldSlot) → IsFieldAt world at field → (name : List ℕ) × (is_below world name at.class.0 ≡ true) × (length (slots_of_class world name) ≡ most)
