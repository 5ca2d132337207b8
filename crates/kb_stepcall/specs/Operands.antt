-- What a call takes from the operand stack of a state (JVMS 8 section 6.5), by the machine's names: the operands from the first
-- one on. A receiver is a reference like each other, and is looked at later.
use Rattle.std.specs.Prelude.{ℕ, Bool, true, false, ◌&&◌, List, [], ◌∷◌, length, take, reverse, Option, slice_get}
use Rattle.std.specs.Option.{option_map_or}
use Rattle.kb_names.specs.declared.types.JType.{JType}
use Rattle.kb_names.specs.declared.types.JType.TheVariants as types
use Rattle.kb_names.specs.declared.types.MethodType.{MethodType}
use Rattle.kb_class.specs.Platform.{object_name}
use Rattle.kb_resolution.specs.Lookup.{only_where}
use Rattle.kb_semantics.specs.Instructions.{CallKind, BySelection, Special, Static}
use Rattle.kb_frames.specs.declared.value.SymValue.{SymValue}
use Rattle.kb_frames.specs.declared.value.SymValue.TheVariants.{Null}
use Rattle.kb_ways.specs.Kept.{is_of_kind}
use Rattle.kb_ways.specs.Operands.{reference}
use Rattle.kb_stepcall.specs.declared.calls.Call.{Call}
use Rattle.kb_stepcall.specs.declared.calls.Call.TheVariants as found

-- the machine's name of a kind of call
abbrev pub kind_of : Call → CallKind
kind_of found.BySelection = BySelection
kind_of found.Special = Special
kind_of found.Static = Static

-- so many values from the top, the lowest one first
abbrev pub topmost : ℕ → List SymValue → List SymValue
topmost count stack = reverse (take count stack)

abbrev pub are_of_kinds : List JType → List SymValue → Bool
are_of_kinds [] [] = true
are_of_kinds (type ∷ others) (value ∷ values) = is_of_kind type value && are_of_kinds others values
are_of_kinds _ _ = false

-- the types of the operands: those of the parameters, and before them that of a receiver, but for invokestatic
abbrev pub operand_types : CallKind → MethodType → List JType
operand_types Static kind = kind.params
operand_types _ kind = types.Class object_name ∷ kind.params

-- the operands of these types, the last one on the top
abbrev pub operands_for : List JType → List SymValue → Option (List SymValue)
operands_for kinds stack = only_where (are_of_kinds kinds (topmost (length kinds) stack)) (topmost (length kinds) stack)

-- Those of a call: none where one is missing, or has another kind.
abbrev pub operands_of : CallKind → MethodType → List SymValue → Option (List SymValue)
operands_of call kind stack = operands_for (operand_types call kind) stack

-- the reference at a place among the operands; one that is none, which no call has there, counts as null
abbrev pub reference_at : List SymValue → ℕ → SymValue
reference_at args place = option_map_or (λ value. value) (reference (slice_get args place)) Null

-- the receiver, and the first argument behind it
abbrev pub receiver_of : List SymValue → SymValue
receiver_of args = reference_at args 0

abbrev pub argument_of : List SymValue → SymValue
argument_of args = reference_at args 1
