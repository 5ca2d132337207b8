-- How deep the objects of a picture lie: an object that was found in an argument has the depth 1, another one that of the
-- object in which it was found and one more (the bound on chains of references is that of Deng, Lee and Robby, ASE 2006;
-- counting from 1 is own).
use Rattle.std.specs.Prelude.{ℕ, suc, ◌<◌, ◌⊎◌, List, [], ◌∷◌, ◌++◌, fold}
use Rattle.std.specs.List.{slice_index_or}
use Rattle.kb_class.specs.Naming.{Has}
use Rattle.kb_picture.specs.declared.picture.Origin.{Origin}
use Rattle.kb_picture.specs.declared.picture.Origin.TheVariants.{Arg, Field, Element}
use Rattle.kb_picture.specs.declared.picture.Seen.TheVariants as seens
use Rattle.kb_picture.specs.declared.picture.Standing.TheVariants as standings
use Rattle.kb_picture.specs.declared.picture.PicObject.{PicObject}
use Rattle.kb_picture.specs.declared.picture.Picture.{Picture}

-- the depth of a new object in a slot, where `depths` are those of the objects
abbrev pub depth_in : List ℕ → Origin → ℕ
depth_in depths (Arg number) = 1
depth_in depths (Field object slot) = suc (slice_index_or depths object 0)
depth_in depths (Element array index) = suc (slice_index_or depths array 0)

-- the depths of all objects, each from those of the objects before it
unfoldable pub depths_of : List PicObject → List ℕ
depths_of objects = fold (λ depths (object : PicObject). depths ++ depth_in depths object.origin ∷ []) [] objects

-- the depth that a new object in a slot of the picture has
abbrev pub depth_at : Picture → Origin → ℕ
depth_at picture slot = depth_in (depths_of picture.objects) slot

-- the slot holds an object that is none of the picture's: seen so, or a location that stands so
abbrev pub IsBeyond : Picture → Origin → Type 0
IsBeyond picture slot = Has picture.seen (slot, seens.Beyond) ⊎ Has picture.locs (record { origin = slot; standing = standings.Beyond })

-- some slot holds an object that is none of the picture's, and lies deeper than k
pub record IsBeyondK (picture : Picture) (k : ℕ) : Type 0 where
  pub slot : Origin
  pub beyond : IsBeyond picture slot
  pub deeper : k < depth_at picture slot
