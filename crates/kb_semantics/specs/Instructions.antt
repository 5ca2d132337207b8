-- What each instruction does: one definition an instruction, with its mnemonic and opcode (JVMS 8 section 6.5). `next` is the
-- offset behind it.
use Rattle.std.specs.Prelude.{ℕ, ℤ, pos, Bool, true, false, not, ◌&&◌, List, [], ◌∷◌, ◌++◌, ◌+◌, length, replicate, take, drop, nat_lt, nat_le, nat_eq, is_some, Option, Some, None, option_map, option_and_then, slice_get, codes, if◌then◌else◌}
use Rattle.std.specs.List.{list_any}
use Rattle.std.specs.Option.{option_map_or}
use Rattle.std.specs.Str.{bytes_eq}
use Rattle.kb_arith.specs.Word.{word_add, word_sub, word_mul, word_div, word_rem, word_shl, word_shr, word_ushr, word_and, word_or, word_xor, word_neg, word_byte, word_char, word_short, truth}
use Rattle.kb_names.specs.declared.types.ExactType.{ExactType}
use Rattle.kb_names.specs.declared.types.ExactType.TheVariants as exact
use Rattle.kb_names.specs.declared.types.JType.{JType}
use Rattle.kb_names.specs.declared.types.JType.TheVariants as types
use Rattle.kb_names.specs.declared.types.MethodType.{MethodType}
use Rattle.kb_code.specs.declared.instruction.Cond.{Cond}
use Rattle.kb_code.specs.declared.instruction.Elem.{Elem}
use Rattle.kb_code.specs.declared.instruction.IntCut.{IntCut}
use Rattle.kb_code.specs.declared.instruction.IntCut.TheVariants as cuts
use Rattle.kb_code.specs.declared.instruction.IntOp.{IntOp}
use Rattle.kb_code.specs.declared.instruction.IntOp.TheVariants as ops
use Rattle.kb_class.specs.declared.members.MemberKind.{MemberKind}
use Rattle.kb_class.specs.declared.members.MemberKind.TheVariants as kinds
use Rattle.kb_class.specs.declared.members.MethodInfo.{MethodInfo}
use Rattle.kb_class.specs.Class.{Sought}
use Rattle.kb_class.specs.Platform.{throwable}
use Rattle.kb_heap.specs.declared.bounds.Bound.TheVariants.{Alloc}
use Rattle.kb_heap.specs.declared.heap.Value.{Value}
use Rattle.kb_heap.specs.declared.heap.Value.TheVariants.{Int, Null, Ref}
use Rattle.kb_heap.specs.declared.heap.Object.{Object}
use Rattle.kb_heap.specs.declared.heap.Heap.{Heap}
use Rattle.kb_heap.specs.Heap.{object_at, with_value, with_object}
use Rattle.kb_classes.specs.declared.slots.FieldSlot.{FieldSlot}
use Rattle.kb_classes.specs.World.{World, number_in, chain_of, type_entry_of, int_entry_of, literal_entry_of}
use Rattle.kb_classes.specs.Subtypes.{fits, type_of_exact}
use Rattle.kb_classes.specs.Options.{or_else, only_where}
use Rattle.kb_world.specs.Calls.{sought_at, resolved_field, resolved_method, selected_special, selected_on, receives, is_without_file}
use Rattle.kb_semantics.specs.Config.{Setting, Config, Outcome, info_of, class_number, local_of, with_local}
use Rattle.kb_semantics.specs.Values.{kept, default_of, takes_component, new_object}
use Rattle.kb_semantics.specs.Comparisons.{holds, is_so, equal, switch_target}
use Rattle.kb_semantics.specs.Operands.{Reference, Taken, int_of, reference_of, value_of_reference, an_int, a_reference, two_ints, two_references, an_element, an_element_and_value, an_object_and_value, arguments, receiver_and_arguments, receiver_of, argument_of}
use Rattle.kb_semantics.specs.Ways.{ill_typed, past, goes, goes_on, goes_with, jumps, branches, throws, throws_object, enters, pushed, returns_value, returns_nothing, null_pointer, arithmetic, index_outside, array_store, class_cast, negative_size}

-- Where there is something, what it leads to; else the run ends as ill-typed.
abbrev pub with : {A : Type 0} → Setting → Config → Option A → (A → Outcome) → Outcome
with s c it f = option_map_or f it (ill_typed s c)

-- the number of the class that declares the current method
abbrev pub here : Setting → Config → ℕ
here s c = class_number s.world c.frame.method

-- ---- constants

-- nop (00)
unfoldable pub nop : Setting → ℕ → Config → Outcome
nop s next c = goes s c next c.frame.stack

-- aconst_null (01)
unfoldable pub push_null : Setting → ℕ → Config → Outcome
push_null s next c = goes s c next (Null ∷ c.frame.stack)

-- iconst_m1 to iconst_5 (02 to 08), bipush (10), sipush (11)
unfoldable pub push_int : ℤ → Setting → ℕ → Config → Outcome
push_int z s next c = goes s c next (Int z ∷ c.frame.stack)

-- what an entry of a class stands for: an int, or the object of a string literal, behind the input's objects
abbrev pub constant_at : World → ℕ → ℕ → ℕ → Option Value
constant_at world class entry inputs =
    or_else (option_map Int (int_entry_of world class entry)) (option_map (λ literal. Ref (inputs + literal)) (literal_entry_of world class entry))

-- ldc (12), ldc_w (13)
unfoldable pub load_constant : ℕ → Setting → ℕ → Config → Outcome
load_constant entry s next c = with s c (constant_at s.world (here s c) entry c.inputs) (λ v. goes s c next (v ∷ c.frame.stack))

-- ---- locals

-- iload (15, 1a to 1d)
unfoldable pub load_int : ℕ → Setting → ℕ → Config → Outcome
load_int k s next c = with s c (int_of (local_of s.world c.frame k)) (λ z. goes s c next (Int z ∷ c.frame.stack))

-- aload (19, 2a to 2d)
unfoldable pub load_reference : ℕ → Setting → ℕ → Config → Outcome
load_reference k s next c = with s c (reference_of (local_of s.world c.frame k)) (λ r. goes s c next (value_of_reference r ∷ c.frame.stack))

-- the local of that number is set
abbrev pub sets_local : Setting → ℕ → Config → ℕ → Value → List Value → Outcome
sets_local s next c k v rest = with s c (with_local s.world c.frame k v) (λ locals. goes_on s c next locals rest c.heap)

-- istore (36, 3b to 3e)
unfoldable pub store_int : ℕ → Setting → ℕ → Config → Outcome
store_int k s next c = with s c (an_int c.frame.stack) (λ z. sets_local s next c k (Int z.it) z.rest)

-- astore (3a, 4b to 4e)
unfoldable pub store_reference : ℕ → Setting → ℕ → Config → Outcome
store_reference k s next c = with s c (a_reference c.frame.stack) (λ r. sets_local s next c k (value_of_reference r.it) r.rest)

-- iinc (84)
unfoldable pub increase : ℕ → ℤ → Setting → ℕ → Config → Outcome
increase k by s next c = with s c (int_of (local_of s.world c.frame k)) (λ z. sets_local s next c k (Int (word_add z by)) c.frame.stack)

-- ---- the operand stack

-- the stack without its top values, where it has so many
abbrev pub without : ℕ → List Value → Option (List Value)
without count stack = only_where (nat_le count (length stack)) (drop count stack)

-- the top values copied below those of a depth, where it has so many
abbrev pub copied_below : ℕ → ℕ → List Value → Option (List Value)
copied_below count depth stack = only_where (nat_le depth (length stack)) (take depth stack ++ take count stack ++ drop depth stack)

-- the two values on the top exchanged
abbrev pub exchanged : List Value → Option (List Value)
exchanged stack = only_where (nat_le 2 (length stack)) (take 1 (drop 1 stack) ++ take 1 stack ++ drop 2 stack)

-- pop (57), pop2 (58), dup (59), dup_x1 (5a), dup_x2 (5b), dup2 (5c), dup2_x1 (5d), dup2_x2 (5e), swap (5f): the stack is rearranged
unfoldable pub rearrange : (List Value → Option (List Value)) → Setting → ℕ → Config → Outcome
rearrange how s next c = with s c (how c.frame.stack) (λ stack. goes s c next stack)

-- ---- arithmetic

-- the value of an instruction on two ints, the lower one first: None by a divisor of 0
abbrev pub int2_value : IntOp → ℤ → ℤ → Option ℤ
int2_value ops.Add a b = Some (word_add a b)
int2_value ops.Sub a b = Some (word_sub a b)
int2_value ops.Mul a b = Some (word_mul a b)
int2_value ops.Div a b = if is_so (equal b (pos 0)) then None else Some (word_div a b)
int2_value ops.Rem a b = if is_so (equal b (pos 0)) then None else Some (word_rem a b)
int2_value ops.Shl a b = Some (word_shl a b)
int2_value ops.Shr a b = Some (word_shr a b)
int2_value ops.Ushr a b = Some (word_ushr a b)
int2_value ops.And a b = Some (word_and a b)
int2_value ops.Or a b = Some (word_or a b)
int2_value ops.Xor a b = Some (word_xor a b)

-- iadd (60), isub (64), imul (68), idiv (6c), irem (70), ishl (78), ishr (7a), iushr (7c), iand (7e), ior (80), ixor (82)
unfoldable pub apply_two : IntOp → Setting → ℕ → Config → Outcome
apply_two op s next c =
    with s c (two_ints c.frame.stack) (λ t. option_map_or (λ z. goes s c next (Int z ∷ t.rest)) (int2_value op t.it.0 t.it.1) (throws s c arithmetic))

-- ineg (74)
unfoldable pub negate : Setting → ℕ → Config → Outcome
negate s next c = with s c (an_int c.frame.stack) (λ a. goes s c next (Int (word_neg a.it) ∷ a.rest))

abbrev pub narrowed : IntCut → ℤ → ℤ
narrowed cuts.Byte a = word_byte a
narrowed cuts.Char a = word_char a
narrowed cuts.Short a = word_short a

-- i2b (91), i2c (92), i2s (93)
unfoldable pub narrow : IntCut → Setting → ℕ → Config → Outcome
narrow cut s next c = with s c (an_int c.frame.stack) (λ a. goes s c next (Int (narrowed cut a.it) ∷ a.rest))

-- ---- branches

-- ifeq (99), ifne (9a), iflt (9b), ifge (9c), ifgt (9d), ifle (9e)
unfoldable pub if_int : Cond → ℕ → Setting → ℕ → Config → Outcome
if_int cond target s next c = with s c (an_int c.frame.stack) (λ a. branches s c next target (holds cond a.it (pos 0)) a.rest)

-- if_icmpeq (9f), if_icmpne (a0), if_icmplt (a1), if_icmpge (a2), if_icmpgt (a3), if_icmple (a4)
unfoldable pub if_ints : Cond → ℕ → Setting → ℕ → Config → Outcome
if_ints cond target s next c = with s c (two_ints c.frame.stack) (λ t. branches s c next target (holds cond t.it.0 t.it.1) t.rest)

abbrev pub same_reference : Reference → Reference → Bool
same_reference None None = true
same_reference (Some o) (Some p) = nat_eq o p
same_reference _ _ = false

-- whether that is so, or is not, as is wanted
abbrev pub is_wanted : Bool → Bool → Bool
is_wanted true so = so
is_wanted false so = not so

-- if_acmpeq (a5), if_acmpne (a6)
unfoldable pub if_same : Bool → ℕ → Setting → ℕ → Config → Outcome
if_same want target s next c = with s c (two_references c.frame.stack) (λ t. branches s c next target (is_wanted want (same_reference t.it.0 t.it.1)) t.rest)

abbrev pub is_null : Reference → Bool
is_null None = true
is_null (Some o) = false

-- ifnull (c6), ifnonnull (c7)
unfoldable pub if_null : Bool → ℕ → Setting → ℕ → Config → Outcome
if_null want target s next c = with s c (a_reference c.frame.stack) (λ r. branches s c next target (is_wanted want (is_null r.it)) r.rest)

-- goto (a7), goto_w (c8)
unfoldable pub goto : ℕ → Setting → ℕ → Config → Outcome
goto target s next c = jumps s c target c.frame.stack

-- tableswitch (aa), lookupswitch (ab), by keys and their targets
unfoldable pub switch : List (ℤ × ℕ) → ℕ → Setting → ℕ → Config → Outcome
switch keys default s next c = with s c (an_int c.frame.stack) (λ a. jumps s c (switch_target a.it keys default) a.rest)

-- ---- returns

-- ireturn (ac)
unfoldable pub return_int : Setting → ℕ → Config → Outcome
return_int s next c = with s c (an_int c.frame.stack) (λ a. returns_value s c (Int a.it))

-- areturn (b0)
unfoldable pub return_reference : Setting → ℕ → Config → Outcome
return_reference s next c = with s c (a_reference c.frame.stack) (λ r. returns_value s c (value_of_reference r.it))

-- return (b1)
unfoldable pub return_nothing : Setting → ℕ → Config → Outcome
return_nothing s next c = returns_nothing s c

-- ---- objects

-- the object that a reference leads to, with its number; null throws
abbrev pub on_object : Setting → Config → Reference → (ℕ → Object → Outcome) → Outcome
on_object s c None f = throws s c null_pointer
on_object s c (Some o) f = with s c (object_at c.heap o) (f o)

-- the numbers of the class of an object and of its superclasses: an array has none
abbrev pub classes_of : World → ExactType → List ℕ
classes_of world (exact.Class name) = option_map_or (chain_of world) (number_in world.classes name) []
classes_of world (exact.Array component) = []

-- whether an object of the exact type has the slot: its class is the one that declares the field, or one below it
abbrev pub has_field : World → ExactType → FieldSlot → Bool
has_field world kind field = list_any (nat_eq field.class.0) (classes_of world kind)

-- what the object has in the slot of the field, where it has that
abbrev pub field_of : World → Object → FieldSlot → Option Value
field_of world object field = if has_field world object.kind field then slice_get object.values field.slot else None

-- getfield (b4)
unfoldable pub get_field : ℕ → Setting → ℕ → Config → Outcome
get_field entry s next c =
    with s c (resolved_field s.world (here s c) entry) (λ field. with s c (a_reference c.frame.stack) (λ r.
    on_object s c r.it (λ o object. with s c (field_of s.world object field) (λ v. goes s c next (v ∷ r.rest)))))

-- putfield (b5)
unfoldable pub put_field : ℕ → Setting → ℕ → Config → Outcome
put_field entry s next c =
    with s c (resolved_field s.world (here s c) entry) (λ field. with s c (an_object_and_value field.kind c.frame.stack) (λ t.
    on_object s c t.it.0 (λ o object. with s c (field_of s.world object field) (λ before. goes_with s c next t.rest (with_value c.heap o field.slot t.it.1)))))

-- new (bb)
abbrev pub class_of_entry : Option ExactType → Option (List ℕ)
class_of_entry (Some (exact.Class name)) = Some name
class_of_entry _ = None

-- an object is added to the heap and its reference to the stack
abbrev pub makes : Setting → ℕ → Config → Object → List Value → Outcome
makes s next c object rest = goes_with s c next (Ref (length c.heap.objects) ∷ rest) (with_object c.heap object)

unfoldable pub make_object : ℕ → Setting → ℕ → Config → Outcome
make_object entry s next c = with s c (class_of_entry (type_entry_of s.world (here s c) entry)) (λ name. makes s next c (new_object s.world name) c.frame.stack)

-- ---- arrays

-- the component and the elements of an array
pub record Elements : Type 0 where
  pub component : JType
  pub values : List Value

abbrev pub elements_of : ExactType → List Value → (JType → Bool) → Option Elements
elements_of (exact.Class name) values such = None
elements_of (exact.Array component) values such = only_where (such component) (record { component = component; values = values })

-- those of an object, where it is an array whose component is such
abbrev pub array_at : Heap → ℕ → (JType → Bool) → Option Elements
array_at heap o such = option_and_then (λ (object : Object). elements_of object.kind object.values such) (object_at heap o)

-- what an array leads to whose component is such, with its number; null throws
abbrev pub on_array : Setting → Config → Reference → (JType → Bool) → (ℕ → Elements → Outcome) → Outcome
on_array s c None such f = throws s c null_pointer
on_array s c (Some o) such f = with s c (array_at c.heap o such) (f o)

-- the place of an index in an array of that length
abbrev pub place_in_array : ℤ → ℕ → Option ℕ
place_in_array (pos i) len = only_where (nat_lt i len) i
place_in_array _ len = None

-- where the index is in the array, what it leads to; else it throws
abbrev pub on_place : Setting → Config → Elements → ℤ → (ℕ → Outcome) → Outcome
on_place s c array index f = option_map_or f (place_in_array index (length array.values)) (throws s c index_outside)

-- iaload (2e), aaload (32), baload (33)
unfoldable pub load_element : Elem → Setting → ℕ → Config → Outcome
load_element elem s next c =
    with s c (an_element c.frame.stack) (λ t. on_array s c t.it.0 (takes_component elem) (λ o array.
    on_place s c array t.it.1 (λ place. with s c (slice_get array.values place) (λ v. goes s c next (v ∷ t.rest)))))

-- whether the component takes the value: null, or an object that fits it (aastore)
abbrev pub takes_object : World → Heap → JType → Value → Bool
takes_object world heap component (Ref o) = option_map_or (λ (object : Object). fits world object.kind component) (object_at heap o) false
takes_object world heap component _ = true

-- iastore (4f), aastore (53), bastore (54)
unfoldable pub store_element : Elem → Setting → ℕ → Config → Outcome
store_element elem s next c =
    with s c (an_element_and_value elem c.frame.stack) (λ t. on_array s c t.it.0.0 (takes_component elem) (λ o array.
    on_place s c array t.it.0.1 (λ place.
    if takes_object s.world c.heap array.component t.it.1
    then with s c (kept array.component t.it.1) (λ v. goes_with s c next t.rest (with_value c.heap o place v))
    else throws s c array_store)))

-- arraylength (be)
unfoldable pub array_length : Setting → ℕ → Config → Outcome
array_length s next c =
    with s c (a_reference c.frame.stack) (λ r. on_array s c r.it (λ component. true) (λ o array. goes s c next (Int (pos (length array.values)) ∷ r.rest)))

abbrev pub new_array : JType → ℕ → Object
new_array component len = record { kind = exact.Array component; values = replicate len (default_of component) }

-- an array of a length is made: a negative one throws, and one above the bound ends the run
abbrev pub makes_array : Setting → ℕ → Config → JType → ℤ → List Value → Outcome
makes_array s next c component (pos len) rest =
    if nat_le len s.bounds.alloc then makes s next c (new_array component len) rest else past c Alloc
makes_array s next c component _ rest = throws s c negative_size

-- newarray (bc), anewarray (bd), by the component
unfoldable pub make_array : Option JType → Setting → ℕ → Config → Outcome
make_array component s next c = with s c component (λ type. with s c (an_int c.frame.stack) (λ len. makes_array s next c type len.it len.rest))

-- the component of an array that anewarray makes for an entry of a class
abbrev pub component_of_entry : World → ℕ → ℕ → Option JType
component_of_entry world class entry = option_map type_of_exact (type_entry_of world class entry)

-- ---- types of objects

-- whether the object of that number is of the type
abbrev pub is_instance : World → Heap → ExactType → ℕ → Bool
is_instance world heap type o = option_map_or (λ (object : Object). fits world object.kind (type_of_exact type)) (object_at heap o) false

-- checkcast (c0)
unfoldable pub cast : ℕ → Setting → ℕ → Config → Outcome
cast entry s next c =
    with s c (type_entry_of s.world (here s c) entry) (λ type. with s c (a_reference c.frame.stack) (λ r.
    if option_map_or (is_instance s.world c.heap type) r.it true then goes s c next c.frame.stack else throws s c class_cast))

-- instanceof (c1)
unfoldable pub instance_of : ℕ → Setting → ℕ → Config → Outcome
instance_of entry s next c =
    with s c (type_entry_of s.world (here s c) entry) (λ type. with s c (a_reference c.frame.stack) (λ r.
    goes s c next (Int (truth (option_map_or (is_instance s.world c.heap type) r.it false)) ∷ r.rest)))

-- athrow (bf)
unfoldable pub throw : Setting → ℕ → Config → Outcome
throw s next c =
    with s c (a_reference c.frame.stack) (λ r. on_object s c r.it (λ o object.
    if fits s.world object.kind (types.Class throwable) then throws_object s c o object.kind else ill_typed s c))

-- ---- calls

-- how a call finds its method: by the receiver's class (invokevirtual, invokeinterface), upwards from a class that does not
-- depend on the receiver (invokespecial), or as the method that is named (invokestatic)
pub data CallKind : Type 0 where
  BySelection : CallKind
  Special : CallKind
  Static : CallKind

-- the type of the method that a call's entry names
abbrev pub kind_of_member : MemberKind → Option MethodType
kind_of_member (kinds.Field type) = None
kind_of_member (kinds.Method kind) = Some kind

-- a call's entry: the type in which the method is sought, and the method's type
pub record Callee : Type 0 where
  pub class : ExactType
  pub kind : MethodType

abbrev pub callee_of : Sought → Option Callee
callee_of sought = option_map (λ kind. record { class = sought.class; kind = kind }) (kind_of_member sought.member.kind)

abbrev pub callee_at : World → ℕ → ℕ → Option Callee
callee_at world class entry = option_and_then callee_of (sought_at world class entry)

-- the operands of a call: with a receiver first, but for invokestatic
abbrev pub operands_of : CallKind → MethodType → List Value → Option (Taken (List Value))
operands_of Static kind stack = arguments kind.params stack
operands_of _ kind stack = receiver_and_arguments kind.params stack

abbrev pub equals_name : List ℕ
equals_name = codes "equals"

-- whether the method is the platform's Object.equals, by its name
abbrev pub is_equals : World → MethodInfo → Bool
is_equals world method = is_without_file world method.class.0 && bytes_eq method.name equals_name

-- What a method of a platform class answers: `equals` whether the two are one object; a constructor does nothing.
abbrev pub platform_result : World → MethodInfo → List Value → Option Value
platform_result world method args =
    if is_equals world method then Some (Int (truth (same_reference (receiver_of args) (argument_of args)))) else None

-- A method is called with these arguments: one with code gets a frame, one of a platform class answers at once, and any other is
-- ill-typed.
abbrev pub invokes_method : Setting → ℕ → Config → ℕ → MethodInfo → List Value → List Value → Outcome
invokes_method s next c number method args rest =
    if is_some method.code then enters s c (record { 0 = number }) args rest
    else if is_without_file s.world method.class.0 then goes s c next (pushed (platform_result s.world method args) rest)
    else ill_typed s c

abbrev pub invokes : Setting → ℕ → Config → Option ℕ → List Value → List Value → Outcome
invokes s next c found args rest =
    with s c found (λ number. with s c (info_of s.world (record { 0 = number })) (λ method. invokes_method s next c number method args rest))

-- what is called in place of the method of a call's entry where the receiver is of the exact type: none where that is no subtype
-- of the type in which the method is sought
abbrev pub selected_at : World → ℕ → ℕ → Callee → ExactType → Option ℕ
selected_at world class entry callee receiver =
    option_and_then (λ method. selected_on world method receiver) (if receives world callee.class receiver then resolved_method world class entry else None)

-- the call with its operands: the receiver's null test comes before all else
abbrev pub invokes_on : CallKind → ℕ → Setting → ℕ → Config → Callee → List Value → List Value → Outcome
invokes_on Static entry s next c callee args rest = invokes s next c (resolved_method s.world (here s c) entry) args rest
invokes_on Special entry s next c callee args rest =
    on_object s c (receiver_of args) (λ o object. invokes s next c (selected_special s.world (here s c) entry) args rest)
invokes_on BySelection entry s next c callee args rest =
    on_object s c (receiver_of args) (λ o object. invokes s next c (selected_at s.world (here s c) entry callee object.kind) args rest)

-- invokevirtual (b6), invokespecial (b7), invokestatic (b8), invokeinterface (b9)
unfoldable pub invoke : CallKind → ℕ → Setting → ℕ → Config → Outcome
invoke kind entry s next c =
    with s c (callee_at s.world (here s c) entry) (λ callee. with s c (operands_of kind callee.kind c.frame.stack) (λ t. invokes_on kind entry s next c callee t.it t.rest))
