-- The slots and the elements of objects: what is asked of one that is read for the first time (lazy initialisation: Khurshid,
-- Păsăreanu and Visser, TACAS 2003), what one holds, and how it is written (JVMS 8 section 6.5, getfield, putfield, iaload and
-- iastore).
use Rattle.std.specs.Prelude.{ℕ, Option, Some, None, option_and_then}
use Rattle.kb_names.specs.declared.types.JType.{JType}
use Rattle.kb_picture.specs.declared.picture.Origin.{Origin}
use Rattle.kb_frames.specs.declared.value.Cell.{Cell}
use Rattle.kb_frames.specs.declared.value.Cell.TheVariants.{Untouched, Read, Written}
use Rattle.kb_frames.specs.declared.value.SymValue.{SymValue}
use Rattle.kb_frames.specs.declared.value.SymValue.TheVariants.{Int, Null, Obj, Literal, New, Loc}
use Rattle.kb_frames.specs.Heaps.{find_cell, made_value, value_of_cell, wrote, wrote_made}
use Rattle.kb_frames.specs.State.{State}
use Rattle.kb_ways.specs.declared.question.Question.{Question}
use Rattle.kb_ways.specs.declared.question.Question.TheVariants.{Reads}

-- the slot is read for the first time, where nobody has read or written it
abbrev pub first_ask : Origin → JType → Option Cell → Option Question
first_ask slot type (Some Untouched) = Some (Reads slot type)
first_ask slot type (Some (Read value)) = None
first_ask slot type (Some (Written value)) = None
first_ask slot type None = None

-- the value of a slot or an element of the object, where it was read or written
abbrev pub held_in : State → SymValue → ℕ → Option SymValue
held_in state (Obj number) slot = option_and_then value_of_cell (find_cell state.cells number slot)
held_in state (New number) slot = made_value state.made number slot
held_in state (Int term) slot = None
held_in state Null slot = None
held_in state (Literal number) slot = None
held_in state (Loc number) slot = None

-- the state with a value in a slot or an element of the object
abbrev pub put_in : SymValue → ℕ → SymValue → State → State
put_in (Obj number) slot value state = wrote number slot value state
put_in (New number) slot value state = wrote_made number slot value state
put_in (Int term) slot value state = state
put_in Null slot value state = state
put_in (Literal number) slot value state = state
put_in (Loc number) slot value state = state
