-- What licenses a cut: an input that passes the bound, and a picture that shows it where the bound is one on inputs (bounds on
-- the chain of references and on the length of arrays: Deng, Lee and Robby, ASE 2006).
use Rattle.std.specs.Prelude.{◌≡◌, ℕ}
use Rattle.kb_class.specs.declared.ids.MethodId.{MethodId}
use Rattle.kb_class.specs.Naming.{Has}
use Rattle.kb_heap.specs.declared.bounds.Bound.{Bound}
use Rattle.kb_heap.specs.declared.bounds.Bound.TheVariants.{K, Array, Alloc, Loops, Depth, Steps}
use Rattle.kb_heap.specs.declared.bounds.Bounds.{Bounds}
use Rattle.kb_heap.specs.declared.ending.Ending.TheVariants.{Past}
use Rattle.kb_heap.specs.declared.heap.Input.{Input}
use Rattle.kb_classes.specs.World.{World}
use Rattle.kb_semantics.specs.Config.{Setting}
use Rattle.kb_semantics.specs.Past.{IsPastK, IsPastArray}
use Rattle.kb_semantics.specs.Step.{run_of}
use Rattle.kb_picture.specs.declared.picture.Length.TheVariants.{Above}
use Rattle.kb_picture.specs.declared.picture.PicObject.{PicObject}
use Rattle.kb_picture.specs.declared.picture.Picture.{Picture}
use Rattle.kb_picture.specs.Depths.{IsBeyondK}

-- what a run needs of the bounds
abbrev pub setting_of : World → Bounds → Setting
setting_of world bounds = record { world = world; bounds = bounds.run }

-- some object of the picture is an array with more than so many elements
pub record HasLonger (picture : Picture) (most : ℕ) : Type 0 where
  pub object : PicObject
  pub there : Has picture.objects object
  pub longer : object.length ≡ Above most

-- the run of the method over the input ends as past the bound
abbrev pub RunsPast : World → MethodId → Bounds → Bound → Input → Type 0
RunsPast world method bounds bound input = (run_of (setting_of world bounds) method input).ending ≡ Past bound

-- A cut at a bound is licensed for an input with such a picture: by k where the input has a chain of more than k objects, and
-- the picture a slot or a location that is beyond, where a new object would lie deeper than k; by array where the input has an
-- array longer than the bound at the end of a chain, and the picture one; by each other bound where the runs that count end
-- past it, which `Passes` tells.
abbrev pub IsLicensedBy : (Bound → Type 0) → Bounds → Picture → Bound → Input → Type 0
IsLicensedBy Passes bounds picture K input = IsPastK input bounds.k × IsBeyondK picture bounds.k
IsLicensedBy Passes bounds picture Array input = IsPastArray input bounds.array × HasLonger picture bounds.array
IsLicensedBy Passes bounds picture Alloc input = Passes Alloc
IsLicensedBy Passes bounds picture Loops input = Passes Loops
IsLicensedBy Passes bounds picture Depth input = Passes Depth
IsLicensedBy Passes bounds picture Steps input = Passes Steps

-- by the run of one method
abbrev pub IsLicensed : World → MethodId → Bounds → Picture → Bound → Input → Type 0
IsLicensed world method bounds picture bound input = IsLicensedBy (λ past. RunsPast world method bounds past input) bounds picture bound input
