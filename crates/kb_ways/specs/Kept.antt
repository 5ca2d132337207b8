-- What a slot, an element or a result of a type keeps of a symbolic value, as the machine keeps it of a value (JVMS 8 sections
-- 2.3, 2.4 and 6.5).
use Rattle.std.specs.Prelude.{pos, Bool, true, false, List, Option, Some}
use Rattle.kb_names.specs.declared.types.JType.{JType}
use Rattle.kb_names.specs.declared.types.JType.TheVariants as types
use Rattle.kb_terms.specs.declared.op.Op.TheVariants.{And}
use Rattle.kb_terms.specs.declared.node.TermId.{TermId}
use Rattle.kb_terms.specs.declared.node.Node.{Node}
use Rattle.kb_terms.specs.declared.node.Node.TheVariants.{Const}
use Rattle.kb_terms.specs.Terms.{interned}
use Rattle.kb_resolution.specs.Lookup.{only_where}
use Rattle.kb_frames.specs.declared.value.SymValue.{SymValue}
use Rattle.kb_frames.specs.declared.value.SymValue.TheVariants.{Int}
use Rattle.kb_frames.specs.State.{State}
use Rattle.kb_frames.specs.Lent.{with_nodes}
use Rattle.kb_ways.specs.Asked.{interned_op}

-- whether the value has the kind of the type: an int, or a reference, of whatever class
abbrev pub is_of_kind : JType → SymValue → Bool
is_of_kind types.Bool (Int term) = true
is_of_kind types.Int (Int term) = true
is_of_kind (types.Class name) (Int term) = false
is_of_kind (types.Class name) value = true
is_of_kind (types.Array component) (Int term) = false
is_of_kind (types.Array component) value = true
is_of_kind type value = false

-- the low bit of a term, where `one` is the constant 1
abbrev pub masked : State → TermId → List Node × TermId → List Node × TermId
masked state t one = interned_op one.0 And t (Some one.1)

-- what is kept of a value of the kind: of an int in a boolean one the low bit, as a term that is made
abbrev pub kept_in : JType → SymValue → State → State × SymValue
kept_in types.Bool (Int term) state =
    let made = masked state term (interned state.nodes (Const (pos 1))) in
    (with_nodes state made.0, Int made.1)
kept_in _ value state = (state, value)

-- The state with the term that is made, and what the type keeps of a value: None where the value is of another kind. A boolean
-- keeps the low bit of an int as the term `and x 1`, also where x is a constant, whose low bit is then one, and where x is such
-- a term already.
abbrev pub kept : JType → SymValue → State → Option (State × SymValue)
kept type value state = only_where (is_of_kind type value) (kept_in type value state)
