-- The methods that are explored for now: over ints, booleans and references, static or not, with code that has no handlers and
-- uses only instructions that are built, but for those that steps carry out alone (JVMS 8 section 6.5).
use Rattle.std.specs.Prelude.{ℕ, Bool, true, false, not, ◌&&◌, Option}
use Rattle.std.specs.List.{list_all}
use Rattle.std.specs.Option.{option_map_or}
use Rattle.kb_class.specs.declared.ids.MethodId.{MethodId}
use Rattle.kb_class.specs.declared.members.MethodCode.{MethodCode}
use Rattle.kb_class.specs.declared.members.MethodInfo.{MethodInfo}
use Rattle.kb_code.specs.declared.instruction.Instr.{Instr}
use Rattle.kb_code.specs.declared.instruction.Instr.TheVariants as instrs
use Rattle.kb_classes.specs.Slots.{has_slot_type}
use Rattle.kb_classes.specs.World.{World}
use Rattle.kb_names.specs.declared.types.JType.{JType}
use Rattle.kb_semantics.specs.Config.{info_of}
use Rattle.kb_frames.specs.Next.{is_int_instruction}
use Rattle.kb_ways.specs.Reached.{has_none}
use Rattle.kb_ways.specs.Built.{is_built_instruction}

-- nothing, or an int, a boolean or a reference: the types that slots have
abbrev pub is_none_or_value : Option JType → Bool
is_none_or_value result = option_map_or has_slot_type result true

-- invokevirtual, invokespecial, invokestatic, invokeinterface, new, athrow, those on arrays, checkcast and instanceof: carried out by
-- steps alone for now
abbrev pub is_left_to_steps : Instr → Bool
is_left_to_steps (instrs.Virtual entry) = true
is_left_to_steps (instrs.Special entry) = true
is_left_to_steps (instrs.Static entry) = true
is_left_to_steps (instrs.Interface entry) = true
is_left_to_steps (instrs.New entry) = true
is_left_to_steps instrs.Throw = true
is_left_to_steps (instrs.LoadElem elem) = true
is_left_to_steps (instrs.StoreElem elem) = true
is_left_to_steps instrs.Length = true
is_left_to_steps (instrs.NewPrim code) = true
is_left_to_steps (instrs.NewRefs entry) = true
is_left_to_steps (instrs.Cast entry) = true
is_left_to_steps (instrs.InstanceOf entry) = true
is_left_to_steps _ = false

-- so is ldc of what is no int
abbrev pub loads_no_int : World → MethodId → Instr → Bool
loads_no_int world id (instrs.Ldc entry) = not (is_int_instruction world id (instrs.Ldc entry))
loads_no_int world id _ = false

abbrev pub is_heap_instruction : World → MethodId → Instr → Bool
is_heap_instruction world id instr = not (is_left_to_steps instr) && (not (loads_no_int world id instr) && is_built_instruction world id instr)

abbrev pub is_heap_code : World → MethodId → MethodCode → Bool
is_heap_code world id code = has_none code.handlers && list_all (λ (item : ℕ × Instr). is_heap_instruction world id item.1) code.listing.items

abbrev pub is_heap_info : World → MethodId → MethodInfo → Bool
is_heap_info world id info =
    list_all has_slot_type info.kind.params && (is_none_or_value info.kind.result && option_map_or (is_heap_code world id) info.code false)

-- The method takes ints, booleans and references and gives one or nothing; it has code, no handlers, and uses instructions on
-- ints, the stack, references and fields alone.
abbrev pub is_heap_method : World → MethodId → Bool
is_heap_method world id = option_map_or (is_heap_info world id) (info_of world id) false
