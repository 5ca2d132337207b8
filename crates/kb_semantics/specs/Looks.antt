-- What a step looks into, reads, stores and compares. An exploration may choose the shape of its input and split its inputs
-- only by these (the choice when an object is looked into is after Deng, Lee and Robby, ASE 2006; which instructions look into
-- what is an own rule).
use Rattle.std.specs.Prelude.{ℕ, zero, suc, ℤ, pos, Bool, false, ◌&&◌, List, [], ◌∷◌, ◌++◌, length, map, filter, nat_le, nat_lt, Option, Some, None, option_map, option_and_then, is_some, if◌then◌else◌}
use Rattle.std.specs.List.{filter_map}
use Rattle.std.specs.Option.{option_map_or}
use Rattle.kb_names.specs.declared.types.JType.{JType}
use Rattle.kb_code.specs.declared.instruction.Elem.{Elem}
use Rattle.kb_code.specs.declared.instruction.Elem.TheVariants as elems
use Rattle.kb_code.specs.declared.instruction.IntOp.{IntOp}
use Rattle.kb_code.specs.declared.instruction.IntOp.TheVariants as ops
use Rattle.kb_code.specs.declared.instruction.Instr.{Instr}
use Rattle.kb_code.specs.declared.instruction.Instr.TheVariants as instrs
use Rattle.kb_heap.specs.declared.heap.Value.{Value}
use Rattle.kb_heap.specs.declared.heap.Object.{Object}
use Rattle.kb_heap.specs.Heap.{object_at}
use Rattle.kb_classes.specs.declared.slots.FieldSlot.{FieldSlot}
pub use Rattle.kb_classes.specs.Options.{only_where}
use Rattle.kb_world.specs.Calls.{resolved_field, selected_special}
use Rattle.kb_semantics.specs.Config.{Setting, Config, info_of, instruction_at}
use Rattle.kb_semantics.specs.Values.{takes_component}
use Rattle.kb_semantics.specs.Comparisons.{Comparison, equal, less, less_unsigned, compared, compared_keys, table_keys}
use Rattle.kb_semantics.specs.Operands.{Reference, Taken, reference_of, an_int, a_reference, two_ints, two_references, an_element, an_element_and_value, an_object_and_value, receiver_of, argument_of}
use Rattle.kb_semantics.specs.Instructions.{here, field_of, Elements, array_at, place_in_array, takes_object, is_equals, CallKind, BySelection, Special, Static, Callee, callee_at, operands_of, selected_at}

-- the instruction that a step takes up: None where the run ends as past its steps, or off the end of its code
abbrev pub taken_up : Setting → Config → Option Instr
taken_up s c = if nat_le s.bounds.steps c.carried then None else option_map (λ (found : Instr × ℕ). found.0) (instruction_at s.world c.frame.method c.frame.at)

-- ---- objects of the input

abbrev pub is_input : Config → ℕ → Bool
is_input c o = nat_lt o c.inputs

abbrev pub is_input_reference : Config → Reference → Bool
is_input_reference c r = option_map_or (is_input c) r false

-- those of these references that lead to objects of the input
abbrev pub inputs_among : Config → List Reference → List ℕ
inputs_among c references = filter (is_input c) (filter_map (λ r. r) references)

-- both sides of a comparison, where both are objects of the input
abbrev pub both_sides : Config → Reference → Reference → List Reference
both_sides c left right = if is_input_reference c left && is_input_reference c right then left ∷ right ∷ [] else []

-- ---- slots and elements

-- a slot or an element of an object
pub record Slot : Type 0 where
  pub object : ℕ
  pub slot : ℕ

abbrev pub object_of : Config → Reference → Option Object
object_of c r = option_and_then (object_at c.heap) r

-- the slot of the field in an object that has it
abbrev pub field_slot : Setting → Config → FieldSlot → ℕ → Option Slot
field_slot s c field o =
    option_and_then (λ (object : Object). only_where (is_some (field_of s.world object field)) (record { object = o; slot = field.slot })) (object_at c.heap o)

-- the element at an index in the range of an array whose component is such
abbrev pub element_slot : Config → Reference → (JType → Bool) → ℤ → Option Slot
element_slot c r such index =
    option_and_then (λ o. option_and_then (λ (array : Elements). option_map (λ place. record { object = o; slot = place }) (place_in_array index (length array.values))) (array_at c.heap o such)) r

abbrev pub array_of : Config → Reference → (JType → Bool) → Option Elements
array_of c r such = option_and_then (λ o. array_at c.heap o such) r

abbrev pub if_some : {A B : Type 0} → Option A → (A → List B) → List B
if_some it f = option_map_or f it []

abbrev pub at_most_one : {A : Type 0} → Option A → List A
at_most_one None = []
at_most_one (Some x) = x ∷ []

-- ---- what it looks into

-- both sides of a call of Object.equals
abbrev pub compared_sides : Setting → Config → Option ℕ → List Value → List Reference
compared_sides s c found args =
    if option_map_or (is_equals s.world) (option_and_then (λ number. info_of s.world (record { 0 = number })) found) false
    then both_sides c (receiver_of args) (argument_of args) else []

-- the receiver of invokevirtual and invokeinterface, and both sides of Object.equals
abbrev pub looked_by_call : CallKind → ℕ → Setting → Config → Callee → List Value → List Reference
looked_by_call Static entry s c callee args = []
looked_by_call Special entry s c callee args =
    if_some (receiver_of args) (λ o. compared_sides s c (selected_special s.world (here s c) entry) args)
looked_by_call BySelection entry s c callee args =
    receiver_of args ∷ if_some (object_of c (receiver_of args)) (λ object. compared_sides s c (selected_at s.world (here s c) entry callee object.kind) args)

abbrev pub looked_by_calls : CallKind → ℕ → Setting → Config → List Reference
looked_by_calls kind entry s c =
    if_some (callee_at s.world (here s c) entry) (λ callee. if_some (operands_of kind callee.kind c.frame.stack) (λ t. looked_by_call kind entry s c callee t.it))

-- the value of an aastore whose index is in range
abbrev pub looked_by_store : Config → Elem → Taken ((Reference × ℤ) × Value) → List Reference
looked_by_store c elems.Ref t =
    if is_some (element_slot c t.it.0.0 (takes_component elems.Ref) t.it.0.1) then at_most_one (reference_of (Some t.it.1)) else []
looked_by_store c _ t = []

-- one reference on the top
abbrev pub looked_operand : Config → List Reference
looked_operand c = if_some (a_reference c.frame.stack) (λ r. r.it ∷ [])

abbrev pub looked_by : Instr → Setting → Config → List Reference
looked_by (instrs.GetField entry) s c = looked_operand c
looked_by (instrs.PutField entry) s c = if_some (resolved_field s.world (here s c) entry) (λ field. if_some (an_object_and_value field.kind c.frame.stack) (λ t. t.it.0 ∷ []))
looked_by (instrs.LoadElem elem) s c = if_some (an_element c.frame.stack) (λ t. t.it.0 ∷ [])
looked_by (instrs.StoreElem elem) s c = if_some (an_element_and_value elem c.frame.stack) (λ t. t.it.0.0 ∷ looked_by_store c elem t)
looked_by instrs.Length s c = looked_operand c
looked_by (instrs.Virtual entry) s c = looked_by_calls BySelection entry s c
looked_by (instrs.Interface entry) s c = looked_by_calls BySelection entry s c
looked_by (instrs.Special entry) s c = looked_by_calls Special entry s c
looked_by (instrs.Cast entry) s c = looked_operand c
looked_by (instrs.InstanceOf entry) s c = looked_operand c
looked_by instrs.Throw s c = looked_operand c
looked_by (instrs.IfSame want target) s c = if_some (two_references c.frame.stack) (λ t. both_sides c t.it.0 t.it.1)
looked_by _ s c = []

-- The objects of the input that the step of a configuration looks into.
unfoldable pub looks : Setting → Config → List ℕ
looks s c = if_some (taken_up s c) (λ instr. inputs_among c (looked_by instr s c))

-- ---- what it reads and stores

abbrev pub read_by : Instr → Setting → Config → List Slot
read_by (instrs.GetField entry) s c =
    if_some (resolved_field s.world (here s c) entry) (λ field. if_some (a_reference c.frame.stack) (λ r. at_most_one (option_and_then (field_slot s c field) r.it)))
read_by (instrs.LoadElem elem) s c =
    if_some (an_element c.frame.stack) (λ t. at_most_one (element_slot c t.it.0 (takes_component elem) t.it.1))
read_by _ s c = []

-- The slots and elements of objects of the input that the step of a configuration reads. The beginning of a run reads the
-- arguments.
unfoldable pub reads : Setting → Config → List Slot
reads s c = if_some (taken_up s c) (λ instr. filter (λ slot. is_input c slot.object) (read_by instr s c))

abbrev pub stored_by : Instr → Setting → Config → List Slot
stored_by (instrs.PutField entry) s c =
    if_some (resolved_field s.world (here s c) entry) (λ field. if_some (an_object_and_value field.kind c.frame.stack) (λ t. at_most_one (option_and_then (field_slot s c field) t.it.0)))
stored_by (instrs.StoreElem elem) s c =
    if_some (an_element_and_value elem c.frame.stack) (λ t. if_some (array_of c t.it.0.0 (takes_component elem)) (λ array.
    if takes_object s.world c.heap array.component t.it.1 then at_most_one (element_slot c t.it.0.0 (takes_component elem) t.it.0.1) else []))
stored_by _ s c = []

-- The slots and elements that the step of a configuration writes, of any object.
unfoldable pub stores : Setting → Config → List Slot
stores s c = if_some (taken_up s c) (λ instr. stored_by instr s c)

-- ---- what it compares

-- the numbers below one
abbrev pub numbers_below : ℕ → List ℕ
numbers_below zero = []
numbers_below (suc n) = numbers_below n ++ n ∷ []

-- an index with each place of an array, and with its length: the array is one that the instruction takes
abbrev pub compared_index : ℤ → Elements → List Comparison
compared_index index array =
    less_unsigned index (pos (length array.values)) ∷ map (λ place. equal index (pos place)) (numbers_below (length array.values))

abbrev pub compared_element : Config → Elem → Reference → ℤ → List Comparison
compared_element c elem r index = if_some (array_of c r (takes_component elem)) (compared_index index)

-- the length of an array to be made with 0, with each number up to the bound, and with the bound
abbrev pub compared_length : Setting → ℤ → List Comparison
compared_length s len =
    less len (pos 0) ∷ less (pos s.bounds.alloc) len ∷ map (λ n. equal len (pos n)) (numbers_below (suc s.bounds.alloc))

abbrev pub compared_divisor : IntOp → ℤ → List Comparison
compared_divisor ops.Div b = equal b (pos 0) ∷ []
compared_divisor ops.Rem b = equal b (pos 0) ∷ []
compared_divisor _ b = []

abbrev pub compared_by : Instr → Setting → Config → List Comparison
compared_by (instrs.IfInt cond target) s c = if_some (an_int c.frame.stack) (λ a. compared cond a.it (pos 0) ∷ [])
compared_by (instrs.IfPair cond target) s c = if_some (two_ints c.frame.stack) (λ t. compared cond t.it.0 t.it.1 ∷ [])
compared_by (instrs.Table low default targets) s c = if_some (an_int c.frame.stack) (λ a. compared_keys a.it (table_keys low targets))
compared_by (instrs.Lookup default keys) s c = if_some (an_int c.frame.stack) (λ a. compared_keys a.it keys)
compared_by (instrs.Int2 op) s c = if_some (two_ints c.frame.stack) (λ t. compared_divisor op t.it.1)
compared_by (instrs.LoadElem elem) s c = if_some (an_element c.frame.stack) (λ t. compared_element c elem t.it.0 t.it.1)
compared_by (instrs.StoreElem elem) s c = if_some (an_element_and_value elem c.frame.stack) (λ t. compared_element c elem t.it.0.0 t.it.0.1)
compared_by (instrs.NewPrim code) s c = if_some (an_int c.frame.stack) (λ len. compared_length s len.it)
compared_by (instrs.NewRefs entry) s c = if_some (an_int c.frame.stack) (λ len. compared_length s len.it)
compared_by _ s c = []

-- The comparisons by which the step of a configuration goes on.
unfoldable pub compares : Setting → Config → List Comparison
compares s c = if_some (taken_up s c) (λ instr. compared_by instr s c)
