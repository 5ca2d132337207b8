-- What the instructions on ints do to a state, by kinds of effect: which terms they make, and the way on. Each is the
-- counterpart of the machine's effect of the same instruction (JVMS 8 section 6.5), with terms in the place of ints. Where a
-- choice was made, the way is the alternative's.
use Rattle.std.specs.Prelude.{ℕ, ℤ, Bool, true, false, List, [], ◌∷◌, ◌++◌, length, drop, nat_lt, nat_le, Option, Some, None, cond, is_some, slice_get, slice_set, if◌then◌else◌}
use Rattle.std.specs.List.{filter_map}
use Rattle.std.specs.Option.{option_map_or}
use Rattle.kb_code.specs.declared.instruction.Instr.{Instr}
use Rattle.kb_code.specs.declared.instruction.Instr.TheVariants as instrs
use Rattle.kb_code.specs.declared.instruction.IntCut.{IntCut}
use Rattle.kb_code.specs.declared.instruction.IntCut.TheVariants as cuts
use Rattle.kb_code.specs.declared.instruction.IntOp.{IntOp}
use Rattle.kb_code.specs.declared.instruction.IntOp.TheVariants as ops
use Rattle.kb_classes.specs.World.{World, int_entry_of}
use Rattle.kb_semantics.specs.Config.{class_number, max_locals_of, result_of}
use Rattle.kb_semantics.specs.Comparisons.{table_keys}
use Rattle.kb_semantics.specs.Ways.{arithmetic}
use Rattle.kb_terms.specs.declared.op.Op.{Op}
use Rattle.kb_terms.specs.declared.op.Op.TheVariants.{Add, Sub, Mul, Div, Rem, Neg, Shl, Shr, Ushr, And, Or, Xor, Byte, Char, Short}
use Rattle.kb_terms.specs.declared.node.TermId.{TermId}
use Rattle.kb_terms.specs.declared.node.Node.{Node}
use Rattle.kb_terms.specs.declared.node.Node.TheVariants.{Const}
use Rattle.kb_terms.specs.Terms.{interned}
use Rattle.kb_picture.specs.declared.choice.Choice.{Choice}
use Rattle.kb_picture.specs.declared.choice.Choice.TheVariants.{Branch, Key, Default, Zero}
use Rattle.kb_frames.specs.declared.value.SymValue.{SymValue}
use Rattle.kb_frames.specs.declared.value.SymValue.TheVariants.{Int}
use Rattle.kb_frames.specs.State.{State}
use Rattle.kb_frames.specs.Lent.{stack_of, locals_of, local_in, with_nodes}
use Rattle.kb_frames.specs.Next.{method_now}
use Rattle.kb_ways.specs.Operands.{int_term, an_int, two_ints}
use Rattle.kb_ways.specs.Asked.{all_asked, interned_op}
use Rattle.kb_ways.specs.Plans.{Planned, plain, planned, returns_value}
use Rattle.kb_stepint.specs.Choices.{conditions_of}
use Rattle.kb_ways.specs.Ways.{Way, Goes, Jumps, Leaves, Throws, Fails, with_stack}

-- ---- parts

-- a term that was made stands on a stack
abbrev pub pushes : State → List SymValue → List Node × TermId → Planned
pushes state rest made = record { state = with_nodes state made.0; way = with_stack state (Int made.1 ∷ rest) }

-- ---- constants and locals

-- an int: iconst, bipush, sipush, ldc of an int
abbrev pub pushes_int : State → ℤ → Planned
pushes_int state z = pushes state (stack_of state.stage) (interned state.nodes (Const z))

-- the int of a local that lies below the limit: iload
abbrev pub int_local : World → State → ℕ → Option TermId
int_local world state k =
    int_term (cond (nat_lt k (max_locals_of world (method_now state.method state.stage))) (local_in state.stage k) None)

abbrev pub loads : World → State → ℕ → Planned
loads world state k = planned state (int_local world state k) (λ t. plain state (with_stack state (Int t ∷ stack_of state.stage)))

-- a term in a local that lies below the limit: istore, iinc
abbrev pub in_local : World → State → ℕ → TermId → List SymValue → Way
in_local world state k t stack =
    if nat_lt k (max_locals_of world (method_now state.method state.stage)) then Goes (slice_set (locals_of state.stage) k (Some (Int t))) stack else Fails

abbrev pub stores : World → State → ℕ → Planned
stores world state k = planned state (an_int (stack_of state.stage)) (λ t. plain state (in_local world state k t (drop 1 (stack_of state.stage))))

abbrev pub sets : World → State → ℕ → List Node × TermId → Planned
sets world state k made = record { state = with_nodes state made.0; way = in_local world state k made.1 (stack_of state.stage) }

abbrev pub adds : World → State → ℕ → TermId → List Node × TermId → Planned
adds world state k t by = sets world state k (interned_op by.0 Add t (Some by.1))

-- iinc
abbrev pub increases : World → State → ℕ → ℤ → Planned
increases world state k by = planned state (int_local world state k) (λ t. adds world state k t (interned state.nodes (Const by)))

-- ---- the operand stack

-- The stack with those of its top values in the place of them: `picks` are their places among them, from the top down. None
-- where it has not so many.
abbrev pub picked : {A : Type 0} → ℕ → List ℕ → List A → Option (List A)
picked depth picks stack =
    if nat_le depth (length stack) then Some (filter_map (λ (place : ℕ). slice_get stack place) picks ++ drop depth stack) else None

abbrev pub rearranges : State → ℕ → List ℕ → Planned
rearranges state depth picks = planned state (picked depth picks (stack_of state.stage)) (λ stack. plain state (with_stack state stack))

-- ---- arithmetic

abbrev pub op_of : IntOp → Op
op_of ops.Add = Add
op_of ops.Sub = Sub
op_of ops.Mul = Mul
op_of ops.Div = Div
op_of ops.Rem = Rem
op_of ops.Shl = Shl
op_of ops.Shr = Shr
op_of ops.Ushr = Ushr
op_of ops.And = And
op_of ops.Or = Or
op_of ops.Xor = Xor

abbrev pub op_of_cut : IntCut → Op
op_of_cut cuts.Byte = Byte
op_of_cut cuts.Char = Char
op_of_cut cuts.Short = Short

-- an operation on one int: ineg, i2b, i2c, i2s
abbrev pub computes : State → Op → Planned
computes state op = planned state (an_int (stack_of state.stage)) (λ t. pushes state (drop 1 (stack_of state.stage)) (interned_op state.nodes op t None))

-- an operation on two ints, the lower one first; a divisor that is chosen to be 0 throws: iadd to ixor, idiv, irem
abbrev pub computes_by : State → IntOp → TermId × TermId → Choice → Planned
computes_by state op t Zero = plain state (Throws arithmetic)
computes_by state op t _ = pushes state (drop 2 (stack_of state.stage)) (interned_op state.nodes (op_of op) t.0 (Some t.1))

abbrev pub computes_two : State → IntOp → Choice → Planned
computes_two state op choice = planned state (two_ints (stack_of state.stage)) (λ t. computes_by state op t choice)

-- ---- branches

-- to the target, or on at the next offset
abbrev pub branch_way : State → ℕ → List SymValue → Choice → Way
branch_way state target rest (Branch true) = Jumps target rest
branch_way state target rest (Branch false) = with_stack state rest
branch_way state target rest _ = Fails

-- where so many ints are on the stack: if<cond>, if_icmp<cond>
abbrev pub branches : State → Bool → ℕ → ℕ → Choice → Planned
branches state there count target choice =
    plain state (if there then branch_way state target (drop count (stack_of state.stage)) choice else Fails)

-- to the target of the key that was chosen, or to the default one
abbrev pub switch_way : List (ℤ × ℕ) → ℕ → List SymValue → Choice → Way
switch_way keys default rest (Key place) = option_map_or (λ (key : ℤ × ℕ). Jumps key.1 rest) (slice_get keys place) Fails
switch_way keys default rest Default = Jumps default rest
switch_way keys default rest _ = Fails

-- tableswitch, lookupswitch
abbrev pub switches : State → List (ℤ × ℕ) → ℕ → Choice → Planned
switches state keys default choice =
    plain state (if is_some (an_int (stack_of state.stage)) then switch_way keys default (drop 1 (stack_of state.stage)) choice else Fails)

-- ---- returns

-- ireturn
abbrev pub returns_int : World → State → Planned
returns_int world state = planned state (an_int (stack_of state.stage)) (λ t. returns_value world state (Int t))

-- return
abbrev pub returns_nothing : World → State → Planned
returns_nothing world state =
    plain state (if is_some (result_of world (method_now state.method state.stage)) then Fails else Leaves None)

-- ---- the instructions

-- What an instruction does to a state that has the conditions of the alternative that was chosen. One that is no instruction on
-- ints is left out.
abbrev pub effect_of : World → State → Choice → Instr → Planned
effect_of world state choice instrs.Nop = plain state (with_stack state (stack_of state.stage))
effect_of world state choice (instrs.PushInt z) = pushes_int state z
effect_of world state choice (instrs.Ldc entry) =
    planned state (int_entry_of world (class_number world (method_now state.method state.stage)) entry) (pushes_int state)
effect_of world state choice (instrs.LoadInt k) = loads world state k
effect_of world state choice (instrs.StoreInt k) = stores world state k
effect_of world state choice (instrs.Inc k by) = increases world state k by
effect_of world state choice instrs.Pop = rearranges state 1 []
effect_of world state choice instrs.Pop2 = rearranges state 2 []
effect_of world state choice instrs.Dup = rearranges state 1 (0 ∷ 0 ∷ [])
effect_of world state choice instrs.DupX1 = rearranges state 2 (0 ∷ 1 ∷ 0 ∷ [])
effect_of world state choice instrs.DupX2 = rearranges state 3 (0 ∷ 1 ∷ 2 ∷ 0 ∷ [])
effect_of world state choice instrs.Dup2 = rearranges state 2 (0 ∷ 1 ∷ 0 ∷ 1 ∷ [])
effect_of world state choice instrs.Dup2X1 = rearranges state 3 (0 ∷ 1 ∷ 2 ∷ 0 ∷ 1 ∷ [])
effect_of world state choice instrs.Dup2X2 = rearranges state 4 (0 ∷ 1 ∷ 2 ∷ 3 ∷ 0 ∷ 1 ∷ [])
effect_of world state choice instrs.Swap = rearranges state 2 (1 ∷ 0 ∷ [])
effect_of world state choice (instrs.Int2 op) = computes_two state op choice
effect_of world state choice instrs.Neg = computes state Neg
effect_of world state choice (instrs.Narrow cut) = computes state (op_of_cut cut)
effect_of world state choice (instrs.IfInt cond target) = branches state (is_some (an_int (stack_of state.stage))) 1 target choice
effect_of world state choice (instrs.IfPair cond target) = branches state (is_some (two_ints (stack_of state.stage))) 2 target choice
effect_of world state choice (instrs.Goto target) = plain state (Jumps target (stack_of state.stage))
effect_of world state choice (instrs.Table low default targets) = switches state (table_keys low targets) default choice
effect_of world state choice (instrs.Lookup default keys) = switches state keys default choice
effect_of world state choice instrs.ReturnInt = returns_int world state
effect_of world state choice instrs.Return = returns_nothing world state
effect_of world state choice _ = plain state Fails

-- What an instruction does to a state, by the alternative that was chosen: what the alternative asks for is added first.
abbrev pub plan_of : World → State → Choice → Instr → Planned
plan_of world state choice instr = effect_of world (all_asked state (conditions_of instr (stack_of state.stage) choice)) choice instr
