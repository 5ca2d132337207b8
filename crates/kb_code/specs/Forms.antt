-- What each opcode asks for behind it, and which instruction it makes (The Java Virtual Machine Specification, Java SE 8
-- Edition, section 6.5; the groups are those of chapter 7). Opcodes that are not named are of instructions without operands
-- whose meaning is not looked at.
use Rattle.std.specs.Prelude.{ℕ, ◌-◌, pos, ◌-ℤ◌, Bool, true, false, Option, Some, None, nat_le, nat_lt, ◌==◌, ◌&&◌, if◌then◌else◌}
use Rattle.kb_code.specs.declared.instruction.Elem.TheVariants as elems
use Rattle.kb_code.specs.declared.instruction.IntOp.TheVariants as ops
use Rattle.kb_code.specs.declared.instruction.IntCut.TheVariants as cuts
use Rattle.kb_code.specs.declared.instruction.Cond.TheVariants as conds
use Rattle.kb_code.specs.declared.instruction.Instr.{Instr}
use Rattle.kb_code.specs.declared.instruction.Instr.TheVariants as instrs
use Rattle.kb_code.specs.declared.form.Local.{Local}
use Rattle.kb_code.specs.declared.form.Local.TheVariants as locals
use Rattle.kb_code.specs.declared.form.Entry.{Entry}
use Rattle.kb_code.specs.declared.form.Entry.TheVariants as entries
use Rattle.kb_code.specs.declared.form.Branch.{Branch}
use Rattle.kb_code.specs.declared.form.Branch.TheVariants as branches
use Rattle.kb_code.specs.declared.form.Form.{Form}
use Rattle.kb_code.specs.declared.form.Form.TheVariants as forms
use Rattle.kb_code.specs.declared.form.WideForm.{WideForm}
use Rattle.kb_code.specs.declared.form.WideForm.TheVariants as wides

abbrev pub is_within : ℕ → ℕ → ℕ → Bool
is_within low high op = nat_le low op && nat_le op high

-- constants, 00 to 14
unfoldable pub constant_form : ℕ → Form
constant_form op =
    if op == 0x00 then forms.Alone instrs.Nop else  -- nop
    (if op == 0x01 then forms.Alone instrs.PushNull else  -- aconst_null
    (if is_within 0x02 0x08 op then forms.Alone (instrs.PushInt (pos op -ℤ pos 3)) else  -- iconst_m1 to iconst_5
    (if op == 0x10 then forms.PushByte else  -- bipush
    (if op == 0x11 then forms.PushShort else  -- sipush
    (if op == 0x12 then forms.Constant else  -- ldc
    (if op == 0x13 then forms.Entry entries.Constant else  -- ldc_w
    (if op == 0x14 then forms.Skipped op 2 else  -- ldc2_w
    forms.Skipped op 0)))))))

-- loads, 15 to 35
unfoldable pub load_form : ℕ → Form
load_form op =
    if op == 0x15 then forms.Local locals.LoadInt else  -- iload
    (if is_within 0x16 0x18 op then forms.Skipped op 1 else  -- lload, fload, dload
    (if op == 0x19 then forms.Local locals.LoadRef else  -- aload
    (if is_within 0x1a 0x1d op then forms.Alone (instrs.LoadInt (op - 0x1a)) else  -- iload_0 to iload_3
    (if is_within 0x2a 0x2d op then forms.Alone (instrs.LoadRef (op - 0x2a)) else  -- aload_0 to aload_3
    (if op == 0x2e then forms.Alone (instrs.LoadElem elems.Int) else  -- iaload
    (if op == 0x32 then forms.Alone (instrs.LoadElem elems.Ref) else  -- aaload
    (if op == 0x33 then forms.Alone (instrs.LoadElem elems.Byte) else  -- baload
    forms.Skipped op 0)))))))

-- stores, 36 to 56
unfoldable pub store_form : ℕ → Form
store_form op =
    if op == 0x36 then forms.Local locals.StoreInt else  -- istore
    (if is_within 0x37 0x39 op then forms.Skipped op 1 else  -- lstore, fstore, dstore
    (if op == 0x3a then forms.Local locals.StoreRef else  -- astore
    (if is_within 0x3b 0x3e op then forms.Alone (instrs.StoreInt (op - 0x3b)) else  -- istore_0 to istore_3
    (if is_within 0x4b 0x4e op then forms.Alone (instrs.StoreRef (op - 0x4b)) else  -- astore_0 to astore_3
    (if op == 0x4f then forms.Alone (instrs.StoreElem elems.Int) else  -- iastore
    (if op == 0x53 then forms.Alone (instrs.StoreElem elems.Ref) else  -- aastore
    (if op == 0x54 then forms.Alone (instrs.StoreElem elems.Byte) else  -- bastore
    forms.Skipped op 0)))))))

-- the operand stack, 57 to 5f
unfoldable pub stack_form : ℕ → Form
stack_form op =
    if op == 0x57 then forms.Alone instrs.Pop else  -- pop
    (if op == 0x58 then forms.Alone instrs.Pop2 else  -- pop2
    (if op == 0x59 then forms.Alone instrs.Dup else  -- dup
    (if op == 0x5a then forms.Alone instrs.DupX1 else  -- dup_x1
    (if op == 0x5b then forms.Alone instrs.DupX2 else  -- dup_x2
    (if op == 0x5c then forms.Alone instrs.Dup2 else  -- dup2
    (if op == 0x5d then forms.Alone instrs.Dup2X1 else  -- dup2_x1
    (if op == 0x5e then forms.Alone instrs.Dup2X2 else  -- dup2_x2
    (if op == 0x5f then forms.Alone instrs.Swap else  -- swap
    forms.Skipped op 0))))))))

-- arithmetic, 60 to 84
unfoldable pub math_form : ℕ → Form
math_form op =
    if op == 0x60 then forms.Alone (instrs.Int2 ops.Add) else  -- iadd
    (if op == 0x64 then forms.Alone (instrs.Int2 ops.Sub) else  -- isub
    (if op == 0x68 then forms.Alone (instrs.Int2 ops.Mul) else  -- imul
    (if op == 0x6c then forms.Alone (instrs.Int2 ops.Div) else  -- idiv
    (if op == 0x70 then forms.Alone (instrs.Int2 ops.Rem) else  -- irem
    (if op == 0x74 then forms.Alone instrs.Neg else  -- ineg
    (if op == 0x78 then forms.Alone (instrs.Int2 ops.Shl) else  -- ishl
    (if op == 0x7a then forms.Alone (instrs.Int2 ops.Shr) else  -- ishr
    (if op == 0x7c then forms.Alone (instrs.Int2 ops.Ushr) else  -- iushr
    (if op == 0x7e then forms.Alone (instrs.Int2 ops.And) else  -- iand
    (if op == 0x80 then forms.Alone (instrs.Int2 ops.Or) else  -- ior
    (if op == 0x82 then forms.Alone (instrs.Int2 ops.Xor) else  -- ixor
    (if op == 0x84 then forms.Increment else  -- iinc
    forms.Skipped op 0))))))))))))

-- conversions, 85 to 93
unfoldable pub conversion_form : ℕ → Form
conversion_form op =
    if op == 0x91 then forms.Alone (instrs.Narrow cuts.Byte) else  -- i2b
    (if op == 0x92 then forms.Alone (instrs.Narrow cuts.Char) else  -- i2c
    (if op == 0x93 then forms.Alone (instrs.Narrow cuts.Short) else  -- i2s
    forms.Skipped op 0))

-- comparisons, 94 to a6
unfoldable pub comparison_form : ℕ → Form
comparison_form op =
    if op == 0x99 then forms.Near (branches.IfInt conds.Eq) else  -- ifeq
    (if op == 0x9a then forms.Near (branches.IfInt conds.Ne) else  -- ifne
    (if op == 0x9b then forms.Near (branches.IfInt conds.Lt) else  -- iflt
    (if op == 0x9c then forms.Near (branches.IfInt conds.Ge) else  -- ifge
    (if op == 0x9d then forms.Near (branches.IfInt conds.Gt) else  -- ifgt
    (if op == 0x9e then forms.Near (branches.IfInt conds.Le) else  -- ifle
    (if op == 0x9f then forms.Near (branches.IfPair conds.Eq) else  -- if_icmpeq
    (if op == 0xa0 then forms.Near (branches.IfPair conds.Ne) else  -- if_icmpne
    (if op == 0xa1 then forms.Near (branches.IfPair conds.Lt) else  -- if_icmplt
    (if op == 0xa2 then forms.Near (branches.IfPair conds.Ge) else  -- if_icmpge
    (if op == 0xa3 then forms.Near (branches.IfPair conds.Gt) else  -- if_icmpgt
    (if op == 0xa4 then forms.Near (branches.IfPair conds.Le) else  -- if_icmple
    (if op == 0xa5 then forms.Near (branches.IfSame true) else  -- if_acmpeq
    (if op == 0xa6 then forms.Near (branches.IfSame false) else  -- if_acmpne
    forms.Skipped op 0)))))))))))))

-- control, a7 to b1
unfoldable pub control_form : ℕ → Form
control_form op =
    if op == 0xa7 then forms.Near branches.Goto else  -- goto
    (if op == 0xa8 then forms.Skipped op 2 else  -- jsr
    (if op == 0xa9 then forms.Skipped op 1 else  -- ret
    (if op == 0xaa then forms.Table else  -- tableswitch
    (if op == 0xab then forms.Lookup else  -- lookupswitch
    (if op == 0xac then forms.Alone instrs.ReturnInt else  -- ireturn
    (if op == 0xb0 then forms.Alone instrs.ReturnRef else  -- areturn
    (if op == 0xb1 then forms.Alone instrs.Return else  -- return
    forms.Skipped op 0)))))))

-- references, b2 to c3
unfoldable pub reference_form : ℕ → Form
reference_form op =
    if is_within 0xb2 0xb3 op then forms.Skipped op 2 else  -- getstatic, putstatic
    (if op == 0xb4 then forms.Entry entries.GetField else  -- getfield
    (if op == 0xb5 then forms.Entry entries.PutField else  -- putfield
    (if op == 0xb6 then forms.Entry entries.Virtual else  -- invokevirtual
    (if op == 0xb7 then forms.Entry entries.Special else  -- invokespecial
    (if op == 0xb8 then forms.Entry entries.Static else  -- invokestatic
    (if op == 0xb9 then forms.Interface else  -- invokeinterface
    (if op == 0xba then forms.Skipped op 4 else  -- invokedynamic
    (if op == 0xbb then forms.Entry entries.New else  -- new
    (if op == 0xbc then forms.Primitive else  -- newarray
    (if op == 0xbd then forms.Entry entries.NewRefs else  -- anewarray
    (if op == 0xbe then forms.Alone instrs.Length else  -- arraylength
    (if op == 0xbf then forms.Alone instrs.Throw else  -- athrow
    (if op == 0xc0 then forms.Entry entries.Cast else  -- checkcast
    (if op == 0xc1 then forms.Entry entries.InstanceOf else  -- instanceof
    forms.Skipped op 0))))))))))))))

-- further opcodes, c4 to c9
unfoldable pub extended_form : ℕ → Form
extended_form op =
    if op == 0xc4 then forms.Wide else  -- wide
    (if op == 0xc5 then forms.Skipped op 3 else  -- multianewarray
    (if op == 0xc6 then forms.Near (branches.IfNull true) else  -- ifnull
    (if op == 0xc7 then forms.Near (branches.IfNull false) else  -- ifnonnull
    (if op == 0xc8 then forms.Far branches.Goto else  -- goto_w
    (if op == 0xc9 then forms.Skipped op 4 else  -- jsr_w
    forms.Skipped op 0)))))

-- What stands behind an opcode; there is none above c9.
unfoldable pub form_of : ℕ → Option Form
form_of op =
    if nat_lt op 0x15 then Some (constant_form op) else
    (if nat_lt op 0x36 then Some (load_form op) else
    (if nat_lt op 0x57 then Some (store_form op) else
    (if nat_lt op 0x60 then Some (stack_form op) else
    (if nat_lt op 0x85 then Some (math_form op) else
    (if nat_lt op 0x94 then Some (conversion_form op) else
    (if nat_lt op 0xa7 then Some (comparison_form op) else
    (if nat_lt op 0xb2 then Some (control_form op) else
    (if nat_lt op 0xc4 then Some (reference_form op) else
    (if nat_lt op 0xca then Some (extended_form op) else
    None)))))))))

-- What stands behind an opcode behind wide: one that names a local, or iinc.
unfoldable pub wide_form_of : ℕ → Option WideForm
wide_form_of op =
    if op == 0x15 then Some (wides.Local locals.LoadInt) else
    (if is_within 0x16 0x18 op then Some (wides.Skipped op) else
    (if op == 0x19 then Some (wides.Local locals.LoadRef) else
    (if op == 0x36 then Some (wides.Local locals.StoreInt) else
    (if is_within 0x37 0x39 op then Some (wides.Skipped op) else
    (if op == 0x3a then Some (wides.Local locals.StoreRef) else
    (if op == 0x84 then Some wides.Increment else
    (if op == 0xa9 then Some (wides.Skipped op) else
    None)))))))

-- the instruction with the number of a local
abbrev pub local_instr : Local → ℕ → Instr
local_instr locals.LoadInt k = instrs.LoadInt k
local_instr locals.LoadRef k = instrs.LoadRef k
local_instr locals.StoreInt k = instrs.StoreInt k
local_instr locals.StoreRef k = instrs.StoreRef k

-- the instruction with the number of an entry of the constant pool
abbrev pub entry_instr : Entry → ℕ → Instr
entry_instr entries.Constant k = instrs.Ldc k
entry_instr entries.GetField k = instrs.GetField k
entry_instr entries.PutField k = instrs.PutField k
entry_instr entries.Virtual k = instrs.Virtual k
entry_instr entries.Special k = instrs.Special k
entry_instr entries.Static k = instrs.Static k
entry_instr entries.New k = instrs.New k
entry_instr entries.NewRefs k = instrs.NewRefs k
entry_instr entries.Cast k = instrs.Cast k
entry_instr entries.InstanceOf k = instrs.InstanceOf k

-- the instruction with the offset of its target
abbrev pub branch_instr : Branch → ℕ → Instr
branch_instr (branches.IfInt cond) to = instrs.IfInt cond to
branch_instr (branches.IfPair cond) to = instrs.IfPair cond to
branch_instr (branches.IfSame same) to = instrs.IfSame same to
branch_instr (branches.IfNull null) to = instrs.IfNull null to
branch_instr branches.Goto to = instrs.Goto to
