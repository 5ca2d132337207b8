-- Which instructions are carried out for now, each by the steps of its kind (JVMS 8 section 6.5). A further kind of instruction is
-- a further case.
use Rattle.std.specs.Prelude.{◌≡◌, Bool, true, false, ◌||◌}
use Rattle.std.specs.Option.{option_map_or}
use Rattle.kb_class.specs.declared.ids.MethodId.{MethodId}
use Rattle.kb_code.specs.declared.instruction.Instr.{Instr}
use Rattle.kb_code.specs.declared.instruction.Instr.TheVariants as instrs
use Rattle.kb_classes.specs.World.{World}
use Rattle.kb_frames.specs.Next.{instruction_next, is_int_instruction, method_now}
use Rattle.kb_frames.specs.State.{State}

-- aconst_null, aload, astore, if_acmp<cond>, ifnull, ifnonnull, areturn, athrow, getfield, putfield, invokevirtual,
-- invokespecial, invokestatic, invokeinterface, new, the loads and stores of elements, arraylength, newarray, anewarray, checkcast,
-- instanceof, and ldc of what is no int
abbrev pub is_reference_instruction : Instr → Bool
is_reference_instruction instrs.PushNull = true
is_reference_instruction (instrs.LoadRef k) = true
is_reference_instruction (instrs.StoreRef k) = true
is_reference_instruction (instrs.IfSame want target) = true
is_reference_instruction (instrs.IfNull want target) = true
is_reference_instruction instrs.ReturnRef = true
is_reference_instruction instrs.Throw = true
is_reference_instruction (instrs.GetField entry) = true
is_reference_instruction (instrs.PutField entry) = true
is_reference_instruction (instrs.Virtual entry) = true
is_reference_instruction (instrs.Special entry) = true
is_reference_instruction (instrs.Static entry) = true
is_reference_instruction (instrs.Interface entry) = true
is_reference_instruction (instrs.New entry) = true
is_reference_instruction (instrs.LoadElem elem) = true
is_reference_instruction (instrs.StoreElem elem) = true
is_reference_instruction instrs.Length = true
is_reference_instruction (instrs.NewPrim code) = true
is_reference_instruction (instrs.NewRefs entry) = true
is_reference_instruction (instrs.Cast entry) = true
is_reference_instruction (instrs.InstanceOf entry) = true
is_reference_instruction (instrs.Ldc entry) = true
is_reference_instruction _ = false

-- an instruction of ints, or one on references
abbrev pub is_built_instruction : World → MethodId → Instr → Bool
is_built_instruction world id instr = is_int_instruction world id instr || is_reference_instruction instr

-- The next instruction of a state is one that is built, where there is one.
abbrev pub IsBuiltNext : World → State → Type 0
IsBuiltNext world state = option_map_or (is_built_instruction world (method_now state.method state.stage)) (instruction_next world state.method state.stage) true ≡ true
