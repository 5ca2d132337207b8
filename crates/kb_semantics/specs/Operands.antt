-- What instructions take from the operand stack (JVMS 8 section 6.5): each shape of operands once, None where one is missing or
-- has another kind. What an instruction does, looks into, reads, stores and compares goes by these.
use Rattle.std.specs.Prelude.{ℕ, ℤ, Bool, true, false, ◌&&◌, List, [], ◌∷◌, length, take, drop, reverse, is_some, Option, Some, None, option_map, option_and_then, slice_get}
use Rattle.std.specs.Option.{option_map_or}
use Rattle.kb_names.specs.declared.types.JType.{JType}
use Rattle.kb_names.specs.declared.types.JType.TheVariants as types
use Rattle.kb_code.specs.declared.instruction.Elem.{Elem}
use Rattle.kb_code.specs.declared.instruction.Elem.TheVariants as elems
use Rattle.kb_heap.specs.declared.heap.Value.{Value}
use Rattle.kb_heap.specs.declared.heap.Value.TheVariants.{Int, Null, Ref}
use Rattle.kb_class.specs.Platform.{object_name}
use Rattle.kb_classes.specs.Options.{only_where}
use Rattle.kb_semantics.specs.Values.{kept, is_of_kind}

-- ---- kinds

-- a reference: null is None
abbrev pub Reference : Type 0
Reference = Option ℕ

-- the int of a value, where it is one
abbrev pub int_of : Option Value → Option ℤ
int_of (Some (Int z)) = Some z
int_of (Some Null) = None
int_of (Some (Ref o)) = None
int_of None = None

-- the reference of a value, where it is one
abbrev pub reference_of : Option Value → Option Reference
reference_of (Some (Int z)) = None
reference_of (Some Null) = Some None
reference_of (Some (Ref o)) = Some (Some o)
reference_of None = None

abbrev pub value_of_reference : Reference → Value
value_of_reference None = Null
value_of_reference (Some o) = Ref o

-- the top of a stack
abbrev pub top_of : List Value → Option Value
top_of [] = None
top_of (v ∷ rest) = Some v

-- what was taken, and what is left on the stack
pub record Taken (A : Type 0) : Type 0 where
  pub it : A
  pub rest : List Value

abbrev pub taken : {A : Type 0} → List Value → A → Taken A
taken stack it = record { it = it; rest = drop 1 stack }

-- ---- shapes of operands, the top first

abbrev pub an_int : List Value → Option (Taken ℤ)
an_int stack = option_map (taken stack) (int_of (top_of stack))

abbrev pub a_reference : List Value → Option (Taken Reference)
a_reference stack = option_map (taken stack) (reference_of (top_of stack))

-- one operand, and the other below it: with the other first
abbrev pub behind_it : {A B : Type 0} → (List Value → Option (Taken B)) → Taken A → Option (Taken (B × A))
behind_it {B = B} below top = option_map (λ (t : Taken B). record { it = (t.it, top.it); rest = t.rest }) (below top.rest)

abbrev pub above_it : {A B : Type 0} → (List Value → Option (Taken B)) → (List Value → Option (Taken A)) → List Value → Option (Taken (B × A))
above_it below top stack = option_and_then (behind_it below) (top stack)

-- two ints
abbrev pub two_ints : List Value → Option (Taken (ℤ × ℤ))
two_ints stack = above_it an_int an_int stack

abbrev pub two_references : List Value → Option (Taken (Reference × Reference))
two_references stack = above_it a_reference a_reference stack

-- an array and an index
abbrev pub an_element : List Value → Option (Taken (Reference × ℤ))
an_element stack = above_it a_reference an_int stack

-- a value of the kind of an array instruction
abbrev pub is_of_elem : Elem → Value → Bool
is_of_elem elems.Ref value = is_some (reference_of (Some value))
is_of_elem _ value = is_some (int_of (Some value))

abbrev pub a_value_where : (Value → Bool) → List Value → Option (Taken Value)
a_value_where is stack = option_and_then (λ v. only_where (is v) (taken stack v)) (top_of stack)

-- an array, an index and a value to store
abbrev pub an_element_and_value : Elem → List Value → Option (Taken ((Reference × ℤ) × Value))
an_element_and_value elem stack = above_it an_element (a_value_where (is_of_elem elem)) stack

-- an object and a value for a field of the type, which keeps it
abbrev pub a_value_for : JType → List Value → Option (Taken Value)
a_value_for type stack = option_map (taken stack) (option_and_then (kept type) (top_of stack))

abbrev pub an_object_and_value : JType → List Value → Option (Taken (Reference × Value))
an_object_and_value type stack = above_it a_reference (a_value_for type) stack

-- ---- arguments

abbrev pub are_of_kinds : List JType → List Value → Bool
are_of_kinds [] [] = true
are_of_kinds (type ∷ others) (value ∷ values) = is_of_kind type value && are_of_kinds others values
are_of_kinds _ _ = false

-- Arguments for parameters of these types, the last one on the top.
abbrev pub arguments : List JType → List Value → Option (Taken (List Value))
arguments params stack =
    only_where (are_of_kinds params (reverse (take (length params) stack)))
    (record { it = reverse (take (length params) stack); rest = drop (length params) stack })

-- the same with a receiver before them, which is a reference
abbrev pub receiver_and_arguments : List JType → List Value → Option (Taken (List Value))
receiver_and_arguments params stack = arguments (types.Class object_name ∷ params) stack

-- the reference at a place among these arguments
abbrev pub reference_at : List Value → ℕ → Reference
reference_at args place = option_map_or (λ r. r) (reference_of (slice_get args place)) None

-- the receiver, and the first argument behind it
abbrev pub receiver_of : List Value → Reference
receiver_of args = reference_at args 0

abbrev pub argument_of : List Value → Reference
argument_of args = reference_at args 1
