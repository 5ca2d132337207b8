-- The alternatives of an int step, in their order, and the conditions that each of them asks for. Which instruction chooses is
-- told by its comparison (JVMS 8 section 6.5: if<cond>, if_icmp<cond>, tableswitch, lookupswitch, idiv and irem); the order is
-- an own rule.
--
--   an if on ints                 not taken; taken
--   tableswitch, lookupswitch     each key in rising order; default
--   idiv, irem                    divisor zero; not zero
--   every other                   the only way on
--
-- An alternative that asks for a condition which is decided as false is not offered, and every other one is.
use Rattle.std.specs.Prelude.{ℕ, ◌+◌, ℤ, pos, Bool, true, false, not, ◌||◌, List, [], ◌∷◌, map, filter, nat_le, is_some, slice_get, if◌then◌else◌}
use Rattle.std.specs.Option.{option_map_or}
use Rattle.kb_code.specs.declared.instruction.Cond.{Cond}
use Rattle.kb_code.specs.declared.instruction.Instr.{Instr}
use Rattle.kb_code.specs.declared.instruction.Instr.TheVariants as instrs
use Rattle.kb_code.specs.declared.instruction.IntOp.{IntOp}
use Rattle.kb_code.specs.declared.instruction.IntOp.TheVariants as ops
use Rattle.kb_heap.specs.declared.bounds.Bounds.{Bounds}
use Rattle.kb_classes.specs.World.{World}
use Rattle.kb_semantics.specs.Comparisons.{table_keys}
use Rattle.kb_semantics.specs.Looks.{if_some}
use Rattle.kb_terms.specs.declared.node.TermId.{TermId}
use Rattle.kb_picture.specs.declared.choice.Choice.{Choice}
use Rattle.kb_picture.specs.declared.choice.Choice.TheVariants.{Branch, Key, Default, Zero, NotZero}
use Rattle.kb_frames.specs.declared.value.SymValue.{SymValue}
use Rattle.kb_frames.specs.State.{State}
use Rattle.kb_frames.specs.Lent.{stack_of}
use Rattle.kb_frames.specs.Next.{argument_next, instruction_next}
use Rattle.kb_ways.specs.declared.condition.Side.{Side}
use Rattle.kb_ways.specs.declared.condition.Side.TheVariants.{Term, Number}
use Rattle.kb_ways.specs.declared.condition.Condition.{Condition}
use Rattle.kb_ways.specs.Operands.{an_int, two_ints}
use Rattle.kb_ways.specs.Asked.{equal_sides, branch_condition, is_refuted}
use Rattle.kb_ways.specs.Advancing.{only}

-- ---- the list of an instruction

abbrev pub both_ways : List Choice
both_ways = Branch false ∷ Branch true ∷ []

-- the keys from that place on, then the default: a class file has the keys of a switch in rising order
abbrev pub keys_from : ℕ → List (ℤ × ℕ) → List Choice
keys_from place [] = Default ∷ []
keys_from place (key ∷ keys) = Key place ∷ keys_from (place + 1) keys

abbrev pub divisors : IntOp → List Choice
divisors ops.Div = Zero ∷ NotZero ∷ []
divisors ops.Rem = Zero ∷ NotZero ∷ []
divisors _ = only

-- The alternatives of an instruction, whatever is decided: where its operands are no ints it is ill-typed, and chooses nothing.
abbrev pub listed : Instr → List SymValue → List Choice
listed (instrs.IfInt cond target) stack = if is_some (an_int stack) then both_ways else only
listed (instrs.IfPair cond target) stack = if is_some (two_ints stack) then both_ways else only
listed (instrs.Table low default targets) stack = if is_some (an_int stack) then keys_from 0 (table_keys low targets) else only
listed (instrs.Lookup default keys) stack = if is_some (an_int stack) then keys_from 0 keys else only
listed (instrs.Int2 op) stack = if is_some (two_ints stack) then divisors op else only
listed _ stack = only

-- ---- what each of them asks for

abbrev pub branch_conditions : Cond → Side → Side → Choice → List Condition
branch_conditions cond a b (Branch so) = branch_condition cond a b so ∷ []
branch_conditions cond a b _ = []

-- a key is equal to the int; the default is none of the keys, in their order
abbrev pub key_conditions : TermId → List (ℤ × ℕ) → Choice → List Condition
key_conditions x keys (Key place) = if_some (slice_get keys place) (λ (key : ℤ × ℕ). equal_sides (Term x) (Number key.0) true ∷ [])
key_conditions x keys Default = map (λ (key : ℤ × ℕ). equal_sides (Term x) (Number key.0) false) keys
key_conditions x keys _ = []

abbrev pub divisor_conditions : TermId → Choice → List Condition
divisor_conditions x Zero = equal_sides (Term x) (Number (pos 0)) true ∷ []
divisor_conditions x NotZero = equal_sides (Term x) (Number (pos 0)) false ∷ []
divisor_conditions x _ = []

abbrev pub division_conditions : IntOp → TermId → Choice → List Condition
division_conditions ops.Div x choice = divisor_conditions x choice
division_conditions ops.Rem x choice = divisor_conditions x choice
division_conditions _ x choice = []

-- The conditions that an alternative of an instruction asks for, in order.
abbrev pub conditions_of : Instr → List SymValue → Choice → List Condition
conditions_of (instrs.IfInt cond target) stack choice = if_some (an_int stack) (λ x. branch_conditions cond (Term x) (Number (pos 0)) choice)
conditions_of (instrs.IfPair cond target) stack choice = if_some (two_ints stack) (λ t. branch_conditions cond (Term t.0) (Term t.1) choice)
conditions_of (instrs.Table low default targets) stack choice = if_some (an_int stack) (λ x. key_conditions x (table_keys low targets) choice)
conditions_of (instrs.Lookup default keys) stack choice = if_some (an_int stack) (λ x. key_conditions x keys choice)
conditions_of (instrs.Int2 op) stack choice = if_some (two_ints stack) (λ t. division_conditions op t.1 choice)
conditions_of _ stack choice = []

-- ---- what is offered

-- those of an instruction that ask for nothing that is decided as false
abbrev pub offered : State → List SymValue → Instr → List Choice
offered state stack instr = filter (λ choice. not (is_refuted state (conditions_of instr stack choice))) (listed instr stack)

-- no instruction is taken up: an argument is read, or as many instructions were carried out as may be
abbrev pub takes_up_none : World → State → Bounds → Bool
takes_up_none world state bounds = is_some (argument_next world state.method state.stage) || nat_le bounds.run.steps state.carried

-- The alternatives of the next int step of a state. The code may have run off its end: then there is the only way on as well.
abbrev pub choices_of : World → State → Bounds → List Choice
choices_of world state bounds =
    if takes_up_none world state bounds then only
    else option_map_or (offered state (stack_of state.stage)) (instruction_next world state.method state.stage) only
