-- Families of instructions, by what they are about.
use Rattle.kb_code.specs.declared.instruction.Instr.{Instr}
use Rattle.kb_code.specs.declared.instruction.Instr.TheVariants as instrs

-- those that push constants, and the one that does nothing
abbrev pub IsConstant : Instr → Type 0
IsConstant instrs.Nop = Unit {0}
IsConstant instrs.PushNull = Unit {0}
IsConstant (instrs.PushInt a) = Unit {0}
IsConstant (instrs.Ldc a) = Unit {0}
IsConstant _ = ⊥

-- those on locals
abbrev pub IsLocal : Instr → Type 0
IsLocal (instrs.LoadInt a) = Unit {0}
IsLocal (instrs.LoadRef a) = Unit {0}
IsLocal (instrs.StoreInt a) = Unit {0}
IsLocal (instrs.StoreRef a) = Unit {0}
IsLocal (instrs.Inc a b) = Unit {0}
IsLocal _ = ⊥

-- those that rearrange the operand stack
abbrev pub IsRearranging : Instr → Type 0
IsRearranging instrs.Pop = Unit {0}
IsRearranging instrs.Pop2 = Unit {0}
IsRearranging instrs.Dup = Unit {0}
IsRearranging instrs.DupX1 = Unit {0}
IsRearranging instrs.DupX2 = Unit {0}
IsRearranging instrs.Dup2 = Unit {0}
IsRearranging instrs.Dup2X1 = Unit {0}
IsRearranging instrs.Dup2X2 = Unit {0}
IsRearranging instrs.Swap = Unit {0}
IsRearranging _ = ⊥

-- those that compute ints
abbrev pub IsIntWork : Instr → Type 0
IsIntWork (instrs.Int2 a) = Unit {0}
IsIntWork instrs.Neg = Unit {0}
IsIntWork (instrs.Narrow a) = Unit {0}
IsIntWork _ = ⊥

-- branches and switches
abbrev pub IsBranch : Instr → Type 0
IsBranch (instrs.IfInt a b) = Unit {0}
IsBranch (instrs.IfPair a b) = Unit {0}
IsBranch (instrs.IfSame a b) = Unit {0}
IsBranch (instrs.IfNull a b) = Unit {0}
IsBranch (instrs.Goto a) = Unit {0}
IsBranch (instrs.Table a b c) = Unit {0}
IsBranch (instrs.Lookup a b) = Unit {0}
IsBranch _ = ⊥

-- returns
abbrev pub IsReturn : Instr → Type 0
IsReturn instrs.ReturnInt = Unit {0}
IsReturn instrs.ReturnRef = Unit {0}
IsReturn instrs.Return = Unit {0}
IsReturn _ = ⊥

-- those on arrays
abbrev pub IsArrayWork : Instr → Type 0
IsArrayWork (instrs.LoadElem a) = Unit {0}
IsArrayWork (instrs.StoreElem a) = Unit {0}
IsArrayWork (instrs.NewPrim a) = Unit {0}
IsArrayWork (instrs.NewRefs a) = Unit {0}
IsArrayWork instrs.Length = Unit {0}
IsArrayWork _ = ⊥

-- those on objects
abbrev pub IsObjectWork : Instr → Type 0
IsObjectWork (instrs.GetField a) = Unit {0}
IsObjectWork (instrs.PutField a) = Unit {0}
IsObjectWork (instrs.New a) = Unit {0}
IsObjectWork instrs.Throw = Unit {0}
IsObjectWork (instrs.Cast a) = Unit {0}
IsObjectWork (instrs.InstanceOf a) = Unit {0}
IsObjectWork _ = ⊥

-- calls
abbrev pub IsCall : Instr → Type 0
IsCall (instrs.Virtual a) = Unit {0}
IsCall (instrs.Special a) = Unit {0}
IsCall (instrs.Static a) = Unit {0}
IsCall (instrs.Interface a) = Unit {0}
IsCall _ = ⊥
