-- What instructions take from the operand stack of a state (JVMS 8 section 6.5): each shape of operands once, by the machine's
-- names, None where one is missing or has another kind. The stack is the one from the top down, and the lower operand comes
-- first.
use Rattle.std.specs.Prelude.{List, Option, Some, None, option_map, option_and_then, slice_get}
use Rattle.kb_names.specs.declared.types.JType.{JType}
use Rattle.kb_terms.specs.declared.node.TermId.{TermId}
use Rattle.kb_resolution.specs.Lookup.{only_where}
use Rattle.kb_frames.specs.declared.value.SymValue.{SymValue}
use Rattle.kb_frames.specs.declared.value.SymValue.TheVariants.{Int, Null, Obj, Literal, New, Loc}
use Rattle.kb_ways.specs.Kept.{is_of_kind}

-- ---- kinds

-- the term of a value, where it is an int
abbrev pub int_term : Option SymValue → Option TermId
int_term (Some (Int term)) = Some term
int_term (Some Null) = None
int_term (Some (Obj number)) = None
int_term (Some (Literal number)) = None
int_term (Some (New number)) = None
int_term (Some (Loc number)) = None
int_term None = None

-- the value, where it is a reference
abbrev pub reference : Option SymValue → Option SymValue
reference (Some (Int term)) = None
reference (Some Null) = Some Null
reference (Some (Obj number)) = Some (Obj number)
reference (Some (Literal number)) = Some (Literal number)
reference (Some (New number)) = Some (New number)
reference (Some (Loc number)) = Some (Loc number)
reference None = None

-- the value, where it has the kind of the type
abbrev pub of_kind : JType → Option SymValue → Option SymValue
of_kind type it = option_and_then (λ (value : SymValue). only_where (is_of_kind type value) value) it

-- ---- shapes of operands

abbrev pub an_int : List SymValue → Option TermId
an_int stack = int_term (slice_get stack 0)

abbrev pub two_ints : List SymValue → Option (TermId × TermId)
two_ints stack = option_and_then (λ right. option_map (λ left. (left, right)) (int_term (slice_get stack 1))) (int_term (slice_get stack 0))

abbrev pub a_reference : List SymValue → Option SymValue
a_reference stack = reference (slice_get stack 0)

abbrev pub two_references : List SymValue → Option (SymValue × SymValue)
two_references stack = option_and_then (λ right. option_map (λ left. (left, right)) (reference (slice_get stack 1))) (reference (slice_get stack 0))

-- an object and a value for a field of the type
abbrev pub an_object_and_value : JType → List SymValue → Option (SymValue × SymValue)
an_object_and_value type stack = option_and_then (λ value. option_map (λ object. (object, value)) (reference (slice_get stack 1))) (of_kind type (slice_get stack 0))
