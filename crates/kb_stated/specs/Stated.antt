-- What a state's heap states: the slots that the run wrote, by rising object and slot, and the objects that it has made. Terms
-- have their numbers in the pool, and a location that is known to be an object of the picture is named as that object.
use Rattle.std.specs.Prelude.{ℕ, ◌+◌, List, [], ◌∷◌, ◌++◌, map, Option, Some, None, slice_get}
use Rattle.std.specs.List.{cons_option}
use Rattle.kb_names.specs.declared.types.ExactType.{ExactType}
use Rattle.kb_names.specs.declared.types.ExactType.TheVariants as exact
use Rattle.kb_picture.specs.declared.picture.Origin.{Origin}
use Rattle.kb_picture.specs.declared.picture.Origin.TheVariants.{Field, Element}
use Rattle.kb_picture.specs.declared.picture.PicLoc.{PicLoc}
use Rattle.kb_picture.specs.declared.picture.PicObject.{PicObject}
use Rattle.kb_picture.specs.declared.path.Out.{Out}
use Rattle.kb_picture.specs.declared.path.Write.{Write}
use Rattle.kb_picture.specs.declared.path.Made.{Made}
use Rattle.kb_frames.specs.declared.value.SymValue.{SymValue}
use Rattle.kb_frames.specs.declared.value.Cell.{Cell}
use Rattle.kb_frames.specs.declared.value.Cell.TheVariants.{Untouched, Read, Written}
use Rattle.kb_frames.specs.declared.state.SymObject.{SymObject}
use Rattle.kb_frames.specs.Bindings.{resolved}
use Rattle.kb_frames.specs.State.{State}
use Rattle.kb_frames.specs.StandsFor.{out_of}

-- a value, as a path states it: a location that is known to be an object of the picture as that object
abbrev pub stated : List PicLoc → SymValue → Out
stated locs value = out_of (resolved locs value)

abbrev pub stated_values : List PicLoc → List SymValue → List Out
stated_values locs values = map (stated locs) values

-- ---- made objects

abbrev pub stated_object : List PicLoc → SymObject → Made
stated_object locs made = record { kind = made.kind; values = stated_values locs made.values }

abbrev pub made_of : State → List Made
made_of state = map (stated_object state.picture.locs) state.made

-- ---- written slots

-- a slot of a class, or an element of an array
abbrev pub slot_in : ExactType → ℕ → ℕ → Origin
slot_in (exact.Class name) object slot = Field object slot
slot_in (exact.Array component) object slot = Element object slot

abbrev pub write_of : List PicLoc → Origin → Cell → Option Write
write_of locs slot (Written value) = Some (record { slot = slot; value = stated locs value })
write_of locs slot (Read value) = None
write_of locs slot Untouched = None

-- those of an object of the exact type, from the slot of that number on
abbrev pub slot_writes : List PicLoc → ExactType → ℕ → ℕ → List Cell → List Write
slot_writes locs kind object slot [] = []
slot_writes locs kind object slot (cell ∷ cells) = cons_option (write_of locs (slot_in kind object slot) cell) (slot_writes locs kind object (slot + 1) cells)

-- those of the picture's object of that number
abbrev pub object_writes : List PicLoc → Option PicObject → ℕ → List Cell → List Write
object_writes locs None number cells = []
object_writes locs (Some object) number cells = slot_writes locs object.kind number 0 cells

-- those of all objects from that number on
abbrev pub writes_from : List PicLoc → List PicObject → ℕ → List (List Cell) → List Write
writes_from locs objects number [] = []
writes_from locs objects number (slots ∷ cells) = object_writes locs (slice_get objects number) number slots ++ writes_from locs objects (number + 1) cells

abbrev pub writes_of : State → List Write
writes_of state = writes_from state.picture.locs state.picture.objects 0 state.cells
