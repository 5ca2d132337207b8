-- Tables of what stands in the slots of objects.
use Rattle.std.specs.Prelude.{◌≡◌, ℕ, ◌==◌, ◌&&◌, if◌then◌else◌, List, codes, map, Option, Some, None}
use Rattle.std.specs.HashMap.{HashMap, get_by}
use Rattle.std.specs.Option.{option_or}
use Rattle.kb_path_words.specs.Words.{seen_text, out_text}
use Rattle.kb_picture.specs.declared.path.Write.{Write}
use Rattle.kb_picture.specs.declared.picture.Origin.{Origin}
use Rattle.kb_picture.specs.declared.picture.PicLoc.{PicLoc}
use Rattle.kb_picture.specs.declared.picture.Picture.{Picture}
use Rattle.kb_picture.specs.declared.picture.Seen.{Seen}
use Rattle.kb_diagram.specs.declared.cells.Cell.{Cell}
use Rattle.kb_diagram.specs.declared.cells.Cell.TheVariants.{Shown, Written}
use Rattle.kb_diagram.specs.declared.cells.Slot.{Slot}
use Rattle.kb_diagram.specs.Cells.{is_slot, last_said, shown_as}

-- what the table has for that slot of the object
abbrev pub cell_in : {S : Type 0} → HashMap Slot Cell S → ℕ → ℕ → Option Cell
cell_in cells object number = get_by (λ (key : Slot). (object == key.object) && (number == key.number)) cells

-- how it is written
unfoldable pub cell_text : Option Cell → List ℕ
cell_text None = codes "?"
cell_text (Some (Shown seen)) = seen_text seen
cell_text (Some (Written out)) = out_text out

-- what the table has for each slot, as it is written
abbrev pub held_in : {S : Type 0} → HashMap Slot Cell S → ℕ → ℕ → List ℕ
held_in cells object number = cell_text (cell_in cells object number)

-- the slots that were read, with what they are seen to hold, and those that the run wrote, with the values
abbrev pub seen_cell : List PicLoc → Origin × Seen → Origin × Cell
seen_cell locs slot = (slot.0, Shown (shown_as locs slot.1))

abbrev pub written_cell : Write → Origin × Cell
written_cell write = (write.slot, Written write.value)

-- the table has what is said of a slot in the place of what it had there; of an argument it has nothing
abbrev pub Puts : {S : Type 0} → Origin × Cell → HashMap Slot Cell S → HashMap Slot Cell S → Type 0
Puts said before after = (object number : ℕ) → cell_in after object number ≡ (if is_slot object number said.0 then Some said.1 else cell_in before object number)

-- the table has what is said last of a slot, and what it had before where nothing is said
abbrev pub HasMore : {S : Type 0} → List (Origin × Cell) → HashMap Slot Cell S → HashMap Slot Cell S → Type 0
HasMore said before after = (object number : ℕ) → cell_in after object number ≡ option_or (last_said said object number) (cell_in before object number)

-- the table has what is seen, and nothing else
abbrev pub HasSeen : {S : Type 0} → Picture → HashMap Slot Cell S → Type 0
HasSeen picture cells = (object number : ℕ) → cell_in cells object number ≡ last_said (map (seen_cell picture.locs) picture.seen) object number
