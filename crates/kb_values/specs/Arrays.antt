-- What the machine finds in an array, and what becomes of a value that is to be stored there.
use Rattle.std.specs.Prelude.{ℕ, ℤ, Bool, length, Option, Some, None, slice_get, if◌then◌else◌}
use Rattle.std.specs.Option.{option_map_or}
use Rattle.kb_names.specs.declared.types.JType.{JType}
use Rattle.kb_heap.specs.declared.heap.Value.{Value}
use Rattle.kb_heap.specs.declared.heap.Heap.{Heap}
use Rattle.kb_classes.specs.World.{World}
use Rattle.kb_semantics.specs.Values.{kept}
use Rattle.kb_semantics.specs.Instructions.{Elements, array_at, place_in_array, takes_object}
use Rattle.kb_values.specs.declared.arrays.Elements.{Elements as FoundElements}
use Rattle.kb_values.specs.declared.arrays.Loaded.{Loaded}
use Rattle.kb_values.specs.declared.arrays.Loaded.TheVariants as loaded
use Rattle.kb_values.specs.declared.arrays.Stored.{Stored}
use Rattle.kb_values.specs.declared.arrays.Stored.TheVariants as stored

abbrev pub plain_elements : FoundElements → Elements
plain_elements found = record { component = found.component.now; values = found.values.now }

-- ---- loads

abbrev pub loaded_value : Option Value → Loaded
loaded_value None = loaded.IllTyped
loaded_value (Some value) = loaded.Value value

abbrev pub loaded_from : ℤ → Elements → Loaded
loaded_from index array = option_map_or (λ place. loaded_value (slice_get array.values place)) (place_in_array index (length array.values)) loaded.Outside

abbrev pub loaded_at : Heap → ℕ → (JType → Bool) → ℤ → Loaded
loaded_at heap array such index = option_map_or (loaded_from index) (array_at heap array such) loaded.IllTyped

-- ---- stores

abbrev pub stored_value : ℕ → Option Value → Stored
stored_value place None = stored.IllTyped
stored_value place (Some value) = stored.Kept place value

abbrev pub stored_in : World → Heap → Value → Elements → ℕ → Stored
stored_in world heap value array place =
    if takes_object world heap array.component value then stored_value place (kept array.component value) else stored.Refused

abbrev pub stored_from : World → Heap → ℤ → Value → Elements → Stored
stored_from world heap index value array = option_map_or (stored_in world heap value array) (place_in_array index (length array.values)) stored.Outside

abbrev pub stored_at : World → Heap → ℕ → (JType → Bool) → ℤ → Value → Stored
stored_at world heap array such index value = option_map_or (stored_from world heap index value) (array_at heap array such) stored.IllTyped
