-- The fields of objects in a state (JVMS 8 section 6.5, getfield and putfield).
use Rattle.std.specs.Prelude.{ℕ, Bool, false, is_some, Option, None, option_and_then, if◌then◌else◌}
use Rattle.std.specs.Option.{option_map_or}
use Rattle.kb_classes.specs.World.{World}
use Rattle.kb_classes.specs.declared.slots.FieldSlot.{FieldSlot}
use Rattle.kb_names.specs.declared.types.ExactType.{ExactType}
use Rattle.kb_semantics.specs.Config.{class_number}
use Rattle.kb_semantics.specs.Instructions.{has_field}
use Rattle.kb_resolution.specs.Lookup.{resolved_field}
use Rattle.kb_frames.specs.declared.value.Cell.{Cell}
use Rattle.kb_frames.specs.declared.value.SymValue.{SymValue}
use Rattle.kb_frames.specs.declared.value.SymValue.TheVariants.{Int, Null, Obj, Literal, New, Loc}
use Rattle.kb_frames.specs.Heaps.{exact_type_of, find_cell, made_value, value_of_cell}
use Rattle.kb_frames.specs.Next.{method_now}
use Rattle.kb_frames.specs.State.{State}

-- the field that an entry of the current method's class names
abbrev pub field_named : World → State → ℕ → Option FieldSlot
field_named world state entry = resolved_field world (class_number world (method_now state.method state.stage)) entry

-- whether the value is an object whose class is the one that declares the field, or one below it
abbrev pub has_slot_of : World → State → FieldSlot → SymValue → Bool
has_slot_of world state field value = option_map_or (λ (kind : ExactType). has_field world kind field) (exact_type_of state value) false

-- ---- the slot

-- the cell of the field in an object of the picture that has it
abbrev pub cell_of : World → State → FieldSlot → ℕ → Option Cell
cell_of world state field number = if has_slot_of world state field (Obj number) then find_cell state.cells number field.slot else None

-- the value of the field in an object that the run has made and that has it
abbrev pub made_value_of : World → State → FieldSlot → ℕ → Option SymValue
made_value_of world state field number = if has_slot_of world state field (New number) then made_value state.made number field.slot else None

-- ---- what it holds, and whether it is there

-- the value of the field, where the object has it, and it was read or written
abbrev pub held : World → State → FieldSlot → SymValue → Option SymValue
held world state field (Obj number) = option_and_then value_of_cell (cell_of world state field number)
held world state field (New number) = made_value_of world state field number
held world state field (Int term) = None
held world state field Null = None
held world state field (Literal number) = None
held world state field (Loc number) = None

abbrev pub has_place : World → State → FieldSlot → SymValue → Bool
has_place world state field (Obj number) = is_some (cell_of world state field number)
has_place world state field (New number) = is_some (made_value_of world state field number)
has_place world state field (Int term) = false
has_place world state field Null = false
has_place world state field (Literal number) = false
has_place world state field (Loc number) = false
