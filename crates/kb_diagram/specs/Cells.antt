-- What stands in the cells of a diagram: what a slot is seen to hold, and what the run wrote there last.
use Rattle.std.specs.Prelude.{ℕ, Bool, false, ◌==◌, ◌&&◌, if◌then◌else◌, List, [], ◌∷◌, codes, map, Option, Some, None, slice_get}
use Rattle.std.specs.Option.{option_map_or, option_or}
use Rattle.kb_path_words.specs.Words.{seen_text, out_text}
use Rattle.kb_picture.specs.declared.path.Out.{Out}
use Rattle.kb_picture.specs.declared.path.Write.{Write}
use Rattle.kb_picture.specs.declared.picture.Origin.{Origin}
use Rattle.kb_picture.specs.declared.picture.Origin.TheVariants.{Arg, Field, Element}
use Rattle.kb_picture.specs.declared.picture.PicLoc.{PicLoc}
use Rattle.kb_picture.specs.declared.picture.Picture.{Picture}
use Rattle.kb_picture.specs.declared.picture.Seen.{Seen}
use Rattle.kb_picture.specs.declared.picture.Seen.TheVariants.{Int, Null, Loc, Obj, Beyond}
use Rattle.kb_picture.specs.declared.picture.Standing.{Standing}
use Rattle.kb_picture.specs.declared.picture.Standing.TheVariants as standings

-- ---- what a list says of a slot

-- whether it is that slot of the object: one of its fields or, of an array, of its elements
abbrev pub is_slot : ℕ → ℕ → Origin → Bool
is_slot object number (Arg argument) = false
is_slot object number (Field owner slot) = (owner == object) && (slot == number)
is_slot object number (Element array index) = (array == object) && (index == number)

-- the last that the list says of the slot; a well-formed path says one thing of a slot
abbrev pub last_said : {A : Type 0} → List (Origin × A) → ℕ → ℕ → Option A
last_said [] object number = None
last_said (said ∷ more) object number = option_or (last_said more object number) (if is_slot object number said.0 then Some said.1 else None)

-- ---- before the run

-- a location that is bound is shown as its object, any other as itself
abbrev pub standing_as : ℕ → Standing → Seen
standing_as number standings.Open = Loc number
standing_as number (standings.Obj object) = Obj object
standing_as number standings.Beyond = Loc number

abbrev pub shown_as : List PicLoc → Seen → Seen
shown_as locs (Int number) = Int number
shown_as locs Null = Null
shown_as locs (Loc number) = option_map_or (λ (loc : PicLoc). standing_as number loc.standing) (slice_get locs number) (Loc number)
shown_as locs (Obj number) = Obj number
shown_as locs Beyond = Beyond

-- What a slot of an object holds before the run, as it is seen; `?` where it was not read.
unfoldable pub cell_before : Picture → ℕ → ℕ → List ℕ
cell_before picture object number = option_map_or (λ (seen : Seen). seen_text (shown_as picture.locs seen)) (last_said picture.seen object number) (codes "?")

-- ---- after it

abbrev pub written : List Write → List (Origin × Out)
written writes = map (λ (write : Write). (write.slot, write.value)) writes

-- What a slot holds after the run: the last value where the run wrote one, else what it held before.
unfoldable pub cell_after : Picture → List Write → ℕ → ℕ → List ℕ
cell_after picture writes object number = option_map_or out_text (last_said (written writes) object number) (cell_before picture object number)
