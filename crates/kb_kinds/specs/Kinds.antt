-- The types of a method's arguments, and which instructions are those of ints (The Java Virtual Machine Specification, Java SE 8
-- Edition, sections 2.11 and 6.5).
use Rattle.std.specs.Prelude.{ℕ, Bool, true, false, Some, option_and_then, is_some}
use Rattle.kb_class.specs.declared.ids.MethodId.{MethodId}
use Rattle.kb_class.specs.declared.members.MethodInfo.{MethodInfo}
use Rattle.kb_code.specs.declared.instruction.Instr.{Instr}
use Rattle.kb_code.specs.declared.instruction.Instr.TheVariants as instrs
use Rattle.kb_classes.specs.World.{World, int_entry_of}
use Rattle.kb_names.specs.declared.types.JType.{JType}
use Rattle.kb_names.specs.declared.types.JType.TheVariants as types
use Rattle.kb_semantics.specs.Config.{info_of, class_name}
use Rattle.kb_terms.specs.declared.node.VarKind.{VarKind}
use Rattle.kb_picture.specs.Queries.{kind_for}
use Rattle.kb_kinds.specs.declared.arguments.Argument.{Argument}
use Rattle.kb_kinds.specs.declared.arguments.Argument.TheVariants.{Receiver, Typed}

-- ---- arguments

-- the type of an argument, of a method that a class declares: a receiver is of that class
abbrev pub type_of : World → ℕ → Argument → JType
type_of world class Receiver = types.Class (class_name world class)
type_of world class (Typed kind) = kind.now

-- the kind of the variable that an argument of the type is to be
abbrev pub kind_of : JType → VarKind
kind_of kind = kind_for (Some kind)

-- ---- instructions

-- the entry of the method's class is an Integer
abbrev pub is_int_entry : World → MethodId → ℕ → Bool
is_int_entry world method entry = is_some (option_and_then (λ (info : MethodInfo). int_entry_of world info.class.0 entry) (info_of world method))

-- The instructions of ints, of locals that are ints, and of the stack, those that branch on ints, and the returns of an int and
-- of nothing. An ldc is one of them where its constant is an int.
abbrev pub is_int_instruction : World → MethodId → Instr → Bool
is_int_instruction world method instrs.Nop = true
is_int_instruction world method (instrs.PushInt z) = true
is_int_instruction world method (instrs.Ldc entry) = is_int_entry world method entry
is_int_instruction world method (instrs.LoadInt k) = true
is_int_instruction world method (instrs.StoreInt k) = true
is_int_instruction world method instrs.Pop = true
is_int_instruction world method instrs.Pop2 = true
is_int_instruction world method instrs.Dup = true
is_int_instruction world method instrs.DupX1 = true
is_int_instruction world method instrs.DupX2 = true
is_int_instruction world method instrs.Dup2 = true
is_int_instruction world method instrs.Dup2X1 = true
is_int_instruction world method instrs.Dup2X2 = true
is_int_instruction world method instrs.Swap = true
is_int_instruction world method (instrs.Int2 op) = true
is_int_instruction world method instrs.Neg = true
is_int_instruction world method (instrs.Inc k z) = true
is_int_instruction world method (instrs.Narrow cut) = true
is_int_instruction world method (instrs.IfInt cond target) = true
is_int_instruction world method (instrs.IfPair cond target) = true
is_int_instruction world method (instrs.Goto target) = true
is_int_instruction world method (instrs.Table low default targets) = true
is_int_instruction world method (instrs.Lookup default keys) = true
is_int_instruction world method instrs.ReturnInt = true
is_int_instruction world method instrs.Return = true
is_int_instruction world method _ = false
