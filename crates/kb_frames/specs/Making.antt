-- Objects that a run makes: each slot or element of a new one has the default value of its type (JVMS 8 sections 2.3, 2.4 and
-- 6.5, new, newarray and anewarray).
use Rattle.std.specs.Prelude.{ℕ, pos, List, [], ◌∷◌, ◌++◌, map, replicate}
use Rattle.kb_classes.specs.World.{World}
use Rattle.kb_classes.specs.declared.slots.FieldSlot.{FieldSlot}
use Rattle.kb_names.specs.declared.types.ExactType.TheVariants as exact
use Rattle.kb_names.specs.declared.types.JType.{JType}
use Rattle.kb_names.specs.declared.types.JType.TheVariants as types
use Rattle.kb_semantics.specs.Values.{slots_of_class}
use Rattle.kb_terms.specs.declared.node.TermId.{TermId}
use Rattle.kb_terms.specs.declared.node.Node.{Node}
use Rattle.kb_terms.specs.declared.node.Node.TheVariants.{Const}
use Rattle.kb_terms.specs.Terms.{interned}
use Rattle.kb_frames.specs.declared.value.SymValue.{SymValue}
use Rattle.kb_frames.specs.declared.value.SymValue.TheVariants.{Int, Null}
use Rattle.kb_frames.specs.declared.state.SymObject.{SymObject}
use Rattle.kb_frames.specs.State.{State}

-- the default value of a slot or an element of the type: null, or the term of 0
abbrev pub default_sym : TermId → JType → SymValue
default_sym zero (types.Class name) = Null
default_sym zero (types.Array component) = Null
default_sym zero _ = Int zero

-- a new object of the class
abbrev pub new_sym_object : World → List ℕ → TermId → SymObject
new_sym_object world class zero =
    record { kind = exact.Class class; values = map (λ (slot : FieldSlot). default_sym zero slot.kind) (slots_of_class world class) }

-- a new array of so many elements
abbrev pub new_sym_array : JType → ℕ → TermId → SymObject
new_sym_array component count zero = record { kind = exact.Array component; values = replicate count (default_sym zero component) }

-- the state with a new object behind those that the run has made, which has the term of 0 where it has a 0
abbrev pub with_new_by : (TermId → SymObject) → State → List Node × TermId → State
with_new_by object state zero = record state { nodes = zero.0; made = state.made ++ object zero.1 ∷ [] }

abbrev pub with_new : (TermId → SymObject) → State → State
with_new object state = with_new_by object state (interned state.nodes (Const (pos 0)))

-- with one of the class
abbrev pub with_made : World → State → List ℕ → State
with_made world state class = with_new (new_sym_object world class) state

-- with an array of so many elements
abbrev pub with_array : State → JType → ℕ → State
with_array state component count = with_new (new_sym_array component count) state
