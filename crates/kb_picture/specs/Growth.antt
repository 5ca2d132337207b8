-- How a picture grows: where a reference is read for the first time, by what is chosen (null, an object of the picture, a new
-- one: Khurshid, Păsăreanu and Visser, TACAS 2003; an object that is not known yet: Deng, Lee and Robby, ASE 2006), by the first
-- read of an int or a boolean, and where it is chosen which object a location is.
use Rattle.std.specs.Prelude.{ℕ, length, slice_get, slice_set}
use Rattle.std.specs.Option.{option_map_or}
use Rattle.kb_names.specs.declared.types.ExactType.{ExactType}
use Rattle.kb_picture.specs.declared.choice.Choice.{Choice}
use Rattle.kb_picture.specs.declared.choice.Choice.TheVariants.{Null, Location, Alias, Fresh, Beyond}
use Rattle.kb_picture.specs.declared.picture.Origin.{Origin}
use Rattle.kb_picture.specs.declared.picture.Seen.TheVariants as seens
use Rattle.kb_picture.specs.declared.picture.Standing.{Standing}
use Rattle.kb_picture.specs.declared.picture.Standing.TheVariants as standings
use Rattle.kb_picture.specs.declared.picture.Length.{Length}
use Rattle.kb_picture.specs.declared.picture.PicLoc.{PicLoc}
use Rattle.kb_picture.specs.declared.picture.Picture.{Picture}
use Rattle.kb_picture.specs.Laws.{with_seen, with_object, with_loc}
use Rattle.kb_picture.specs.WellFormed.{variables_seen}

-- a location that is read from the slot, and open
abbrev pub with_open_loc : Picture → Origin → Picture
with_open_loc picture slot = with_loc picture (record { origin = slot; standing = standings.Open })

-- an object that is found in the slot
abbrev pub with_fresh : Picture → Origin → ExactType → Length → Picture
with_fresh picture slot kind len = with_object picture (record { kind = kind; length = len; origin = slot })

-- The picture after a reference was read for the first time, by what was chosen: the slot is seen as null, as a new location,
-- as an object that was there, as a new object, or as one that is none of the picture's. What is no choice of a reference
-- changes nothing.
unfoldable pub after_read : Picture → Origin → Choice → Picture
after_read picture slot Null = with_seen picture (slot, seens.Null)
after_read picture slot Location = with_seen (with_open_loc picture slot) (slot, seens.Loc (length picture.locs))
after_read picture slot (Alias number) = with_seen picture (slot, seens.Obj number)
after_read picture slot (Fresh kind len) = with_seen (with_fresh picture slot kind len) (slot, seens.Obj (length picture.objects))
after_read picture slot Beyond = with_seen picture (slot, seens.Beyond)
after_read picture slot _ = picture

-- The picture after an int or a boolean was read for the first time: the slot is seen as a new variable.
unfoldable pub after_int_read : Picture → Origin → Picture
after_int_read picture slot = with_seen picture (slot, seens.Int (length (variables_seen picture)))

-- ---- a location that is accessed

-- the picture in which the location of that number stands so; its origin stays, and one that is not there is left out
abbrev pub with_standing : Picture → ℕ → Standing → Picture
with_standing picture number standing =
    record picture { locs = option_map_or (λ (loc : PicLoc). slice_set picture.locs number (record loc { standing = standing })) (slice_get picture.locs number) picture.locs }

-- an object that is found where the location was read
abbrev pub with_fresh_at : Picture → ℕ → ExactType → Length → Picture
with_fresh_at picture number kind len = option_map_or (λ (loc : PicLoc). with_fresh picture loc.origin kind len) (slice_get picture.locs number) picture

-- The picture after it was chosen which object the location of that number is: one that was there, a new one, or one that is
-- none of the picture's. What is no choice of an object changes nothing.
unfoldable pub after_access : Picture → ℕ → Choice → Picture
after_access picture number (Alias object) = with_standing picture number (standings.Obj object)
after_access picture number (Fresh kind len) = with_standing (with_fresh_at picture number kind len) number (standings.Obj (length picture.objects))
after_access picture number Beyond = with_standing picture number standings.Beyond
after_access picture number _ = picture
