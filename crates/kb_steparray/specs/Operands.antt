-- What array instructions take from the operand stack of a state (JVMS 8 section 6.5, iaload and iastore), by the machine's names:
-- None where one is missing or has another kind. The stack is the one from the top down, and the lower operands come first.
use Rattle.std.specs.Prelude.{List, Option, option_map, option_and_then, slice_get}
use Rattle.kb_code.specs.declared.instruction.Elem.{Elem}
use Rattle.kb_code.specs.declared.instruction.Elem.TheVariants as elems
use Rattle.kb_terms.specs.declared.node.TermId.{TermId}
use Rattle.kb_frames.specs.declared.value.SymValue.{SymValue}
use Rattle.kb_frames.specs.declared.value.SymValue.TheVariants.{Int}
use Rattle.kb_ways.specs.Operands.{int_term, reference}

-- an array and an index
abbrev pub an_element : List SymValue → Option (SymValue × TermId)
an_element stack = option_and_then (λ index. option_map (λ array. (array, index)) (reference (slice_get stack 1))) (int_term (slice_get stack 0))

-- the value, where it has the kind of the instruction: a reference, or an int
abbrev pub of_elem : Elem → Option SymValue → Option SymValue
of_elem elems.Ref it = reference it
of_elem _ it = option_map Int (int_term it)

-- an array, an index and a value to store
abbrev pub an_element_and_value : Elem → List SymValue → Option (SymValue × TermId × SymValue)
an_element_and_value elem stack =
    option_and_then (λ value. option_and_then (λ index. option_map (λ array. (array, index, value)) (reference (slice_get stack 2))) (int_term (slice_get stack 1))) (of_elem elem (slice_get stack 0))
