-- What a state comes to next: an argument that is read, or an instruction; and whether it is one of ints alone (The Java
-- Virtual Machine Specification, Java SE 8 Edition, sections 2.11 and 6.5; that a run begins by reading its arguments is an own
-- rule).
use Rattle.std.specs.Prelude.{ℕ, Bool, true, not, length, Option, Some, None, option_map, option_and_then, slice_get}
use Rattle.kb_class.specs.declared.ids.MethodId.{MethodId}
use Rattle.kb_class.specs.declared.members.MethodInfo.{MethodInfo}
use Rattle.kb_code.specs.declared.instruction.Instr.{Instr}
use Rattle.kb_classes.specs.World.{World}
use Rattle.kb_names.specs.declared.types.JType.{JType}
use Rattle.kb_semantics.specs.Config.{info_of, instruction_at}
use Rattle.kb_semantics.specs.Inputs.{argument_types}
pub use Rattle.kb_kinds.specs.Kinds.{type_of, kind_of, is_int_entry, is_int_instruction}
use Rattle.kb_picture.specs.WellTyped.{is_reference_type}
use Rattle.kb_frames.specs.declared.state.Stage.{Stage}
use Rattle.kb_frames.specs.declared.state.Stage.TheVariants.{Begins, Runs}
use Rattle.kb_frames.specs.State.{State}

-- ---- arguments

-- the type of the argument that is read next: None where all are read
abbrev pub argument_next : World → MethodId → Stage → Option JType
argument_next world method (Begins read) = option_and_then (λ (info : MethodInfo). slice_get (argument_types world info) (length read)) (info_of world method)
argument_next world method (Runs frame callers) = None

-- ---- instructions

-- the method and the offset at which a run stands whose arguments are read
abbrev pub method_now : MethodId → Stage → MethodId
method_now method (Begins read) = method
method_now method (Runs frame callers) = frame.method

abbrev pub offset_now : Stage → ℕ
offset_now (Begins read) = 0
offset_now (Runs frame callers) = frame.at

-- the instruction there: None where the code has run off its end
abbrev pub instruction_next : World → MethodId → Stage → Option Instr
instruction_next world method stage = option_map (λ (found : Instr × ℕ). found.0) (instruction_at world (method_now method stage) (offset_now stage))

-- ---- both

-- an instruction that is there is one of ints; code that has run off its end is as well
abbrev pub is_int_next : World → MethodId → Option Instr → Bool
is_int_next world method None = true
is_int_next world method (Some instr) = is_int_instruction world method instr

-- while arguments are unread, by the next one's type, else by the instruction
abbrev pub is_int : Option Bool → Bool → Bool
is_int (Some reference) at_int = not reference
is_int None at_int = at_int

-- The next step of a state is one of ints.
abbrev pub next_is_int : World → State → Bool
next_is_int world state =
    is_int (option_map is_reference_type (argument_next world state.method state.stage))
    (is_int_next world (method_now state.method state.stage) (instruction_next world state.method state.stage))
