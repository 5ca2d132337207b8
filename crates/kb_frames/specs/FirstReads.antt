-- A slot is read for the first time: the picture grows by what is found there, and the slot keeps it. Of a reference that is
-- what was chosen (null, an object of the picture, a new one: Khurshid, Păsăreanu and Visser, TACAS 2003; some object: Deng,
-- Lee and Robby, ASE 2006), of an int or a boolean a new variable.
use Rattle.std.specs.Prelude.{List, [], ◌∷◌, ◌++◌, length, replicate}
use Rattle.kb_classes.specs.World.{World}
use Rattle.kb_names.specs.declared.types.ExactType.{ExactType}
use Rattle.kb_names.specs.declared.types.ExactType.TheVariants as exact
use Rattle.kb_semantics.specs.Values.{slots_of_class}
use Rattle.kb_terms.specs.declared.node.VarKind.{VarKind}
use Rattle.kb_terms.specs.declared.node.Node.TheVariants.{Var}
use Rattle.kb_terms.specs.Terms.{variables_of}
use Rattle.kb_picture.specs.declared.choice.Choice.{Choice}
use Rattle.kb_picture.specs.declared.choice.Choice.TheVariants.{Alias, Fresh, Location}
use Rattle.kb_picture.specs.declared.picture.Length.{Length}
use Rattle.kb_picture.specs.declared.picture.Length.TheVariants.{Is}
use Rattle.kb_picture.specs.declared.picture.Origin.{Origin}
use Rattle.kb_picture.specs.declared.picture.Origin.TheVariants.{Arg, Field, Element}
use Rattle.kb_picture.specs.declared.picture.Picture.{Picture}
use Rattle.kb_picture.specs.Growth.{after_read, after_int_read}
use Rattle.kb_frames.specs.declared.value.SymValue.{SymValue}
use Rattle.kb_frames.specs.declared.value.SymValue.TheVariants.{Int, Null, Obj, Loc}
use Rattle.kb_frames.specs.declared.value.Cell.{Cell}
use Rattle.kb_frames.specs.declared.value.Cell.TheVariants.{Untouched, Read}
use Rattle.kb_frames.specs.declared.state.Stage.{Stage}
use Rattle.kb_frames.specs.declared.state.Stage.TheVariants.{Begins, Runs}
use Rattle.kb_frames.specs.Heaps.{with_cell}
use Rattle.kb_frames.specs.State.{State}

-- ---- new objects

-- the cells of an object that was found: none of its slots was touched; an array that is longer than a bound is never looked
-- into
abbrev pub new_cells : World → ExactType → Length → List Cell
new_cells world (exact.Class name) len = replicate (length (slots_of_class world name)) Untouched
new_cells world (exact.Array component) (Is n) = replicate n Untouched
new_cells world (exact.Array component) _ = []

abbrev pub cells_chosen : World → Choice → List (List Cell)
cells_chosen world (Fresh kind len) = new_cells world kind len ∷ []
cells_chosen world _ = []

-- ---- what is found

-- What a reference is that is chosen so. One that is beyond is no value of a state, whose path is cut: null stands in its
-- place.
abbrev pub value_chosen : Picture → Choice → SymValue
value_chosen picture (Alias number) = Obj number
value_chosen picture (Fresh kind len) = Obj (length picture.objects)
value_chosen picture Location = Loc (length picture.locs)
value_chosen picture _ = Null

-- ---- where it is kept

-- an argument is one of those that were read
abbrev pub with_read : Stage → SymValue → Stage
with_read (Begins read) value = Begins (read ++ value ∷ [])
with_read (Runs frame callers) value = Runs frame callers

-- and a slot of an object of the picture holds it
abbrev pub found_in : Origin → SymValue → State → State
found_in (Arg number) value state = record state { stage = with_read state.stage value }
found_in (Field object slot) value state = record state { cells = with_cell state.cells object slot (Read value) }
found_in (Element array index) value state = record state { cells = with_cell state.cells array index (Read value) }

-- ---- both

-- A reference is read for the first time, and chosen so.
abbrev pub first_reference : World → Origin → Choice → State → State
first_reference world slot choice state =
    found_in slot (value_chosen state.picture choice)
    (record state { picture = after_read state.picture slot choice; cells = state.cells ++ cells_chosen world choice })

-- An int or a boolean is read for the first time: a new variable.
abbrev pub first_int : Origin → VarKind → State → State
first_int slot kind state =
    found_in slot (Int (record { 0 = length state.nodes }))
    (record state { picture = after_int_read state.picture slot; nodes = state.nodes ++ Var (variables_of state.nodes) kind ∷ [] })
