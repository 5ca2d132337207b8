-- What a reference that is read for the first time may be (null, an object that was met, a new one: Khurshid, Păsăreanu and
-- Visser, TACAS 2003; an object that is not known yet, and the bound on the chain of references: Deng, Lee and Robby, ASE
-- 2006), and which object a location may be that is looked into. The order of the alternatives, and the bound on the length of
-- arrays, are own rules.
use Rattle.std.specs.Prelude.{ℕ, suc, Bool, true, false, List, [], ◌∷◌, ◌++◌, map, filter, nat_lt, slice_get, if◌then◌else◌}
use Rattle.std.specs.List.{list_any, flat_map}
use Rattle.kb_classes.specs.Subtypes.{fits}
use Rattle.kb_classes.specs.World.{World}
use Rattle.std.specs.Option.{option_map_or}
use Rattle.kb_names.specs.declared.types.ExactType.{ExactType}
use Rattle.kb_names.specs.declared.types.ExactType.TheVariants as exact
use Rattle.kb_names.specs.declared.types.JType.{JType}
use Rattle.kb_semantics.specs.Looks.{numbers_below}
use Rattle.kb_picture.specs.declared.choice.Choice.{Choice}
use Rattle.kb_picture.specs.declared.choice.Choice.TheVariants.{Null, Location, Alias, Fresh, Beyond}
use Rattle.kb_picture.specs.declared.choice.Init.{Init}
use Rattle.kb_picture.specs.declared.choice.Init.TheVariants.{Lazy, Lazier}
use Rattle.kb_picture.specs.declared.picture.Length.TheVariants.{Plain, Is, Above}
use Rattle.kb_picture.specs.declared.picture.Origin.{Origin}
use Rattle.kb_picture.specs.declared.picture.PicLoc.{PicLoc}
use Rattle.kb_picture.specs.declared.picture.PicObject.{PicObject}
use Rattle.kb_picture.specs.declared.picture.Picture.{Picture}
use Rattle.kb_picture.specs.Depths.{depth_at}

-- ---- objects that were met

-- those of these objects, numbered from a number on, that are of the type
abbrev pub aliases_from : World → JType → ℕ → List PicObject → List Choice
aliases_from world type number [] = []
aliases_from world type number (object ∷ others) =
    if fits world object.kind type then Alias number ∷ aliases_from world type (suc number) others else aliases_from world type (suc number) others

-- the objects of the picture that are of the type, by their numbers
unfoldable pub aliases : World → Picture → JType → List Choice
aliases world picture type = aliases_from world type 0 picture.objects

-- ---- new objects

-- an array of each length up to a bound, and one that is longer
abbrev pub new_arrays : ℕ → JType → List Choice
new_arrays array component =
    map (λ count. Fresh (exact.Array component) (Is count)) (numbers_below (suc array)) ++ Fresh (exact.Array component) (Above array) ∷ []

-- the new objects of an exact type
abbrev pub new_objects : ℕ → ExactType → List Choice
new_objects array (exact.Class name) = Fresh (exact.Class name) Plain ∷ []
new_objects array (exact.Array component) = new_arrays array component

-- those of each exact type of the universe that fits, in its order
abbrev pub all_new : World → JType → ℕ → List Choice
all_new world type array = flat_map (new_objects array) (filter (λ kind. fits world kind type) world.universe)

-- whether some exact type of the universe fits
abbrev pub has_fitting : World → JType → Bool
has_fitting world type = list_any (λ kind. fits world kind type) world.universe

-- an object deeper than the bound, where there can be one of the type
abbrev pub beyond_where : Bool → List Choice
beyond_where true = Beyond ∷ []
beyond_where false = []

-- What is found in a slot for the first time: a new object, or one that is beyond, in place of all new ones, where a new object
-- would lie deeper than k.
unfoldable pub fresh_objects : World → Picture → Origin → JType → ℕ → ℕ → List Choice
fresh_objects world picture origin type k array =
    if nat_lt k (depth_at picture origin) then beyond_where (has_fitting world type) else all_new world type array

-- the objects that a reference of the type in the slot can be: those that were met, and what is found there for the first time
abbrev pub objects_for : World → Picture → Origin → JType → ℕ → ℕ → List Choice
objects_for world picture origin type k array = aliases world picture type ++ fresh_objects world picture origin type k array

-- ---- references that are read

-- null is no alternative for a receiver
abbrev pub null_unless : Bool → List Choice
null_unless true = []
null_unless false = Null ∷ []

-- some object, where there can be one of the type
abbrev pub location_where : Bool → List Choice
location_where true = Location ∷ []
location_where false = []

-- The alternatives for a reference of a declared type that is read for the first time, in their order.
unfoldable pub read_choices_of : Init → World → Picture → Origin → JType → Bool → ℕ → ℕ → List Choice
read_choices_of Lazy world picture slot type receiver k array = null_unless receiver ++ objects_for world picture slot type k array
read_choices_of Lazier world picture slot type receiver k array = null_unless receiver ++ location_where (has_fitting world type)

-- ---- locations that are looked into

-- The alternatives for the location of that number, where the slot from which it was read has the declared type, in their order.
unfoldable pub resolve_choices_of : World → Picture → ℕ → JType → ℕ → ℕ → List Choice
resolve_choices_of world picture number type k array =
    option_map_or (λ (loc : PicLoc). objects_for world picture loc.origin type k array) (slice_get picture.locs number) []
