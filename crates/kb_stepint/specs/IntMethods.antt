-- The methods whose runs are of int steps alone: static, over ints and booleans, with code that has no handlers and uses only
-- the instructions on ints and the stack (JVMS 8 section 6.5).
use Rattle.std.specs.Prelude.{ℕ, Bool, true, false, ◌&&◌, Option}
use Rattle.std.specs.List.{list_all}
use Rattle.std.specs.Option.{option_map_or}
use Rattle.kb_class.specs.declared.ids.MethodId.{MethodId}
use Rattle.kb_class.specs.declared.members.MethodCode.{MethodCode}
use Rattle.kb_class.specs.declared.members.MethodInfo.{MethodInfo}
use Rattle.kb_class.specs.Members.{is_static}
use Rattle.kb_code.specs.declared.instruction.Instr.{Instr}
use Rattle.kb_classes.specs.World.{World}
use Rattle.kb_names.specs.declared.types.JType.{JType}
use Rattle.kb_semantics.specs.Config.{info_of}
use Rattle.kb_frames.specs.Next.{is_int_instruction}
use Rattle.kb_picture.specs.WellTyped.{is_int_type}
use Rattle.kb_ways.specs.Reached.{has_none}

abbrev pub is_none_or_int : Option JType → Bool
is_none_or_int result = option_map_or is_int_type result true

abbrev pub is_int_code : World → MethodId → MethodCode → Bool
is_int_code world id code = has_none code.handlers && list_all (λ (item : ℕ × Instr). is_int_instruction world id item.1) code.listing.items

abbrev pub is_int_info : World → MethodId → MethodInfo → Bool
is_int_info world id info =
    is_static info.access && (list_all is_int_type info.kind.params && (is_none_or_int info.kind.result && option_map_or (is_int_code world id) info.code false))

-- The method takes ints and booleans and gives one or nothing; it has code, no handlers, and uses instructions on ints and the
-- stack alone.
abbrev pub is_int_method : World → MethodId → Bool
is_int_method world id = option_map_or (is_int_info world id) (info_of world id) false
