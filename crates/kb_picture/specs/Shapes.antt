-- Which inputs have the shape of a picture: what a picture says of the first heap, apart from the values of its ints (the
-- partially known heaps of lazy initialisation: Khurshid, Păsăreanu and Visser, TACAS 2003; objects that are known to be there
-- and not yet which: Deng, Lee and Robby, ASE 2006).
use Rattle.std.specs.Prelude.{◌≡◌, ◌≢◌, ℕ, ◌<◌, ℤ, List, [], ◌∷◌, length, Option, Some, slice_get}
use Rattle.kb_heap.specs.declared.heap.Value.{Value}
use Rattle.kb_heap.specs.declared.heap.Value.TheVariants.{Int as IntValue, Null as NullValue, Ref}
use Rattle.kb_heap.specs.declared.heap.Object.{Object}
use Rattle.kb_heap.specs.declared.heap.Heap.{Heap}
use Rattle.kb_heap.specs.declared.heap.Input.{Input}
use Rattle.kb_heap.specs.Heap.{object_at}
use Rattle.kb_picture.specs.declared.picture.Origin.{Origin}
use Rattle.kb_picture.specs.declared.picture.Seen.{Seen}
use Rattle.kb_picture.specs.declared.picture.Seen.TheVariants.{Int, Null, Loc, Obj, Beyond}
use Rattle.kb_picture.specs.declared.picture.Standing.{Standing}
use Rattle.kb_picture.specs.declared.picture.Standing.TheVariants.{Open, Obj as BoundTo, Beyond as BeyondLoc}
use Rattle.kb_picture.specs.declared.picture.Length.{Length}
use Rattle.kb_picture.specs.declared.picture.Length.TheVariants.{Plain, Is, Above}
use Rattle.kb_picture.specs.declared.picture.PicLoc.{PicLoc}
use Rattle.kb_picture.specs.declared.picture.PicObject.{PicObject}
use Rattle.kb_picture.specs.declared.picture.Picture.{Picture}
use Rattle.kb_picture.specs.declared.picture.PlaceLists.{PlaceLists}
use Rattle.kb_picture.specs.Places.{slot_value, places_of}

-- ---- slots

-- it is the place of no object of the picture
abbrev pub IsNoPlace : List ℕ → ℕ → Type 0
IsNoPlace [] place = Unit {0}
IsNoPlace (first ∷ others) place = (place ≢ first) × IsNoPlace others place

-- the value is some object of the heap
abbrev pub IsSomeObject : Heap → Option Value → Type 0
IsSomeObject heap value = (object : ℕ) × (value ≡ Some (Ref object)) × (object < length heap.objects)

-- the value is an object of the heap that is none of the picture's
abbrev pub IsFurtherObject : Heap → List ℕ → Option Value → Type 0
IsFurtherObject heap places value = (object : ℕ) × (value ≡ Some (Ref object)) × (object < length heap.objects) × IsNoPlace places object

-- the value is the object of the picture of that number
abbrev pub IsObjectOfPicture : List ℕ → ℕ → Option Value → Type 0
IsObjectOfPicture places number value = (place : ℕ) × (slice_get places number ≡ Some place) × (value ≡ Some (Ref place))

-- The value is what is seen. Whether an int is a boolean is told by the type of its slot, which a type-correct input keeps.
abbrev pub HoldsSeen : Heap → List ℕ → Option Value → Seen → Type 0
HoldsSeen heap places value (Int number) = (z : ℤ) × (value ≡ Some (IntValue z))
HoldsSeen heap places value Null = value ≡ Some NullValue
HoldsSeen heap places value (Loc number) = IsSomeObject heap value
HoldsSeen heap places value (Obj number) = IsObjectOfPicture places number value
HoldsSeen heap places value Beyond = IsFurtherObject heap places value

-- each slot that is seen holds what is seen
abbrev pub HoldEach : Input → List ℕ → List (Origin × Seen) → Type 0
HoldEach input places [] = Unit {0}
HoldEach input places (slot ∷ seen) = HoldsSeen input.heap places (slot_value input places slot.0) slot.1 × HoldEach input places seen

-- ---- objects

-- there are so many values, or more than so many
abbrev pub HasLength : Length → List Value → Type 0
HasLength Plain values = Unit {0}
HasLength (Is n) values = length values ≡ n
HasLength (Above n) values = n < length values

-- the object of the input at a place has the exact type and the length of the picture's object
pub record IsSuch (heap : Heap) (expected : PicObject) (place : ℕ) : Type 0 where
  pub object : Object
  pub object_is : object_at heap place ≡ Some object
  pub kind : object.kind ≡ expected.kind
  pub length : HasLength expected.length object.values

abbrev pub AreSuch : Heap → List PicObject → List ℕ → Type 0
AreSuch heap objects places =
    (number place : ℕ) (expected : PicObject) → slice_get objects number ≡ Some expected → slice_get places number ≡ Some place → IsSuch heap expected place

-- no two objects of the picture are one object of the input
abbrev pub AreApart : List ℕ → Type 0
AreApart places = (one other place : ℕ) → slice_get places one ≡ Some place → slice_get places other ≡ Some place → one ≡ other

-- ---- locations

-- The place of a location is what the location stands for. An open one may be any object: one of the picture's, another open
-- location's, or one that was never met.
abbrev pub Stands : List ℕ → Standing → ℕ → Type 0
Stands objects Open place = Unit {0}
Stands objects (BoundTo number) place = slice_get objects number ≡ Some place
Stands objects BeyondLoc place = IsNoPlace objects place

abbrev pub EachStands : PlaceLists → List PicLoc → Type 0
EachStands places locs =
    (number place : ℕ) (loc : PicLoc) → slice_get locs number ≡ Some loc → slice_get places.locs number ≡ Some place → Stands places.objects loc.standing place

-- ---- shapes

-- The input's first heap is as the picture says.
pub record HasShape (picture : Picture) (input : Input) : Type 0 where
  -- every object and location of the picture has a place
  pub places : PlaceLists
  pub placed : places_of picture input ≡ Some places
  -- every slot that is seen holds what is seen
  pub seen : HoldEach input places.objects picture.seen
  -- two objects of the picture have two places
  pub apart : AreApart places.objects
  -- each object's place has its exact type, and its length
  pub such : AreSuch input.heap picture.objects places.objects
  -- each location's place is what it stands for
  pub stands : EachStands places picture.locs
