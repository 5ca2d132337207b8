-- What a step reads of the heap of a state, and writes into it, each the whole state afterwards. A slot of an object of the
-- picture is one cell: untouched, read, or written with its last value (a heap that is known in part: Khurshid, Păsăreanu and
-- Visser, TACAS 2003). All values that name an object name the same cells, so that a write by one name shows through every
-- other.
use Rattle.std.specs.Prelude.{ℕ, List, Option, Some, None, option_map, option_and_then, slice_get, slice_set}
use Rattle.std.specs.Option.{option_map_or}
use Rattle.kb_names.specs.declared.types.ExactType.{ExactType}
use Rattle.kb_picture.specs.declared.picture.PicObject.{PicObject}
use Rattle.kb_frames.specs.declared.value.SymValue.{SymValue}
use Rattle.kb_frames.specs.declared.value.SymValue.TheVariants.{Int, Null, Obj, Literal, New, Loc}
use Rattle.kb_frames.specs.declared.value.Cell.{Cell}
use Rattle.kb_frames.specs.declared.value.Cell.TheVariants.{Untouched, Read, Written}
use Rattle.kb_frames.specs.declared.state.SymObject.{SymObject}
use Rattle.kb_frames.specs.State.{State}

-- ---- what is read

-- the exact type of an object of the picture, or of one that the run has made; of a literal, which has no slots, nothing is
-- asked
abbrev pub exact_type_of : State → SymValue → Option ExactType
exact_type_of state (Obj number) = option_map (λ (object : PicObject). object.kind) (slice_get state.picture.objects number)
exact_type_of state (New number) = option_map (λ (object : SymObject). object.kind) (slice_get state.made number)
exact_type_of state (Int term) = None
exact_type_of state Null = None
exact_type_of state (Literal number) = None
exact_type_of state (Loc number) = None

-- the cell of a slot or an element of an object of the picture, where it has that
abbrev pub find_cell : List (List Cell) → ℕ → ℕ → Option Cell
find_cell cells object slot = option_and_then (λ (slots : List Cell). slice_get slots slot) (slice_get cells object)

-- the value of a slot that was read or written
abbrev pub value_of_cell : Cell → Option SymValue
value_of_cell Untouched = None
value_of_cell (Read value) = Some value
value_of_cell (Written value) = Some value

-- the value of a slot or an element of an object that the run has made, where it has that
abbrev pub made_value : List SymObject → ℕ → ℕ → Option SymValue
made_value made object slot = option_and_then (λ (it : SymObject). slice_get it.values slot) (slice_get made object)

-- ---- what is written

-- the cells with another one in that slot; one that is not there is left out
abbrev pub with_cell : List (List Cell) → ℕ → ℕ → Cell → List (List Cell)
with_cell cells object slot cell = option_map_or (λ (slots : List Cell). slice_set cells object (slice_set slots slot cell)) (slice_get cells object) cells

-- a slot of an object of the picture is written
abbrev pub wrote : ℕ → ℕ → SymValue → State → State
wrote object slot value state = record state { cells = with_cell state.cells object slot (Written value) }

abbrev pub object_with : SymObject → ℕ → SymValue → SymObject
object_with object slot value = record object { values = slice_set object.values slot value }

-- the objects that the run has made, with another value in that slot; one that is not there is left out
abbrev pub with_made_value : List SymObject → ℕ → ℕ → SymValue → List SymObject
with_made_value made object slot value = option_map_or (λ (it : SymObject). slice_set made object (object_with it slot value)) (slice_get made object) made

-- a slot of an object that the run has made is written
abbrev pub wrote_made : ℕ → ℕ → SymValue → State → State
wrote_made object slot value state = record state { made = with_made_value state.made object slot value }
