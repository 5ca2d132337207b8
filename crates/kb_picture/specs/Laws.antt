-- What holds of the places, the shapes, the instances and the endings of every picture and path.
use Rattle.std.specs.Prelude.{◌≡◌, ℕ, ◌<◌, List, [], ◌∷◌, ◌++◌, length, map, replicate, Some, None, slice_get, option_map}
use Rattle.kb_names.specs.declared.types.ExactType.{ExactType}
use Rattle.kb_class.specs.Naming.{Has}
use Rattle.kb_class.specs.declared.ids.MethodId.{MethodId}
use Rattle.kb_heap.specs.declared.heap.Value.{Value}
use Rattle.kb_heap.specs.declared.heap.Object.{Object}
use Rattle.kb_heap.specs.declared.heap.Input.{Input}
use Rattle.kb_heap.specs.declared.ending.Ending.{Ending}
use Rattle.kb_heap.specs.declared.ending.Ending.TheVariants.{Returned, Threw, IllTyped, Past}
use Rattle.kb_classes.specs.World.{World}
use Rattle.kb_heap.specs.Heap.{literal}
use Rattle.kb_semantics.specs.Inputs.{IsTypeCorrect}
use Rattle.kb_semantics.specs.Past.{IsChain, IsPastK, IsPastArray}
use Rattle.kb_picture.specs.declared.picture.Origin.{Origin}
use Rattle.kb_picture.specs.declared.picture.Seen.{Seen}
use Rattle.kb_picture.specs.declared.picture.Length.TheVariants.{Above}
use Rattle.kb_picture.specs.declared.picture.PicLoc.{PicLoc}
use Rattle.kb_picture.specs.declared.picture.PicObject.{PicObject}
use Rattle.kb_picture.specs.declared.picture.Picture.{Picture}
use Rattle.kb_picture.specs.declared.picture.PlaceLists.{PlaceLists}
use Rattle.kb_picture.specs.declared.path.Made.{Made}
use Rattle.kb_picture.specs.declared.path.Ended.{Ended}
use Rattle.kb_picture.specs.declared.path.Leaf.TheVariants.{Ended as EndedLeaf}
use Rattle.kb_picture.specs.declared.path.Path.{Path}
use Rattle.kb_picture.specs.Depths.{depths_of, IsBeyondK}
use Rattle.kb_picture.specs.Endings.{ending_of, final_heap_of}
use Rattle.kb_picture.specs.Instances.{IsInstance, IsShortInstance, with_conditions}
use Rattle.kb_picture.specs.Places.{place_of, places_of}
use Rattle.kb_picture.specs.Shapes.{HasShape}
use Rattle.kb_picture.specs.WellFormed.{IsLengthOf, IsWithin, IsWellFormed}

-- ---- pictures that grow

abbrev pub with_seen : Picture → Origin × Seen → Picture
with_seen picture slot = record picture { seen = picture.seen ++ slot ∷ [] }

abbrev pub with_object : Picture → PicObject → Picture
with_object picture object = record picture { objects = picture.objects ++ object ∷ [] }

abbrev pub with_loc : Picture → PicLoc → Picture
with_loc picture loc = record picture { locs = picture.locs ++ loc ∷ [] }

abbrev pub loc_origins : List PicLoc → List Origin
loc_origins locs = map (λ (loc : PicLoc). loc.origin) locs

-- the places with one more, of an object or of a location
abbrev pub object_placed_behind : PlaceLists → ℕ → PlaceLists
object_placed_behind places place = record places { objects = places.objects ++ place ∷ [] }

abbrev pub loc_placed_behind : PlaceLists → ℕ → PlaceLists
loc_placed_behind places place = record places { locs = places.locs ++ place ∷ [] }

-- A picture that grows keeps the places that it had: another slot that is seen, or another standing of locations, changes none,
-- and a further object or location has the place to which its own origin leads.
pub record PlacesStay : Type 0 where
  pub seen : (picture : Picture) (input : Input) (slot : Origin × Seen) → places_of (with_seen picture slot) input ≡ places_of picture input
  pub standing : (picture : Picture) (input : Input) (locs : List PicLoc) → loc_origins locs ≡ loc_origins picture.locs
      → places_of (record picture { locs = locs }) input ≡ places_of picture input
  pub object : (picture : Picture) (input : Input) (places : PlaceLists) (object : PicObject) → places_of picture input ≡ Some places
      → places_of (with_object picture object) input ≡ option_map (object_placed_behind places) (place_of input places.objects object.origin)
  pub loc : (picture : Picture) (input : Input) (places : PlaceLists) (loc : PicLoc) → places_of picture input ≡ Some places
      → places_of (with_loc picture loc) input ≡ option_map (loc_placed_behind places) (place_of input places.objects loc.origin)

-- An input has a picture's shape at one pair of lists of places, so that a path states one ending and one heap of it.
abbrev pub OnePlaces : Type 0
OnePlaces = (picture : Picture) (input : Input) (one other : HasShape picture input) → one.places ≡ other.places

-- ---- fronts of conditions

-- An instance of a path is one of the path with any front of its conditions, and among its short instances for every number.
pub record FrontsHaveInstances : Type 0 where
  pub front : (path : Path) (count : ℕ) (input : Input) → IsInstance path input → IsInstance (with_conditions path count) input
  pub short : (world : World) (id : MethodId) (path : Path) (count : ℕ) (input : Input) → IsTypeCorrect world id input → IsInstance path input
      → IsShortInstance world id path count input

-- ---- chains

-- so many different objects of an input, the first held by an argument and the last one at the place, each holding the next
pub record IsChainTo (input : Input) (depth place : ℕ) : Type 0 where
  pub before : List ℕ
  pub is_chain : IsChain input (before ++ place ∷ [])
  pub long : length (before ++ place ∷ []) ≡ depth

-- In an input that has a picture's shape an object of depth d is the end of a chain of d objects. So where an object that is
-- none of the picture's lies deeper than k, the input is past k; and where an array is longer than n, it is past n.
pub record DepthsAreChains : Type 0 where
  pub chain : (picture : Picture) (input : Input) (shape : HasShape picture input) (number place depth : ℕ)
      → slice_get shape.places.objects number ≡ Some place → slice_get (depths_of picture.objects) number ≡ Some depth → IsChainTo input depth place
  pub k : (picture : Picture) (input : Input) (k : ℕ) → HasShape picture input → IsBeyondK picture k → IsPastK input k
  pub array : (picture : Picture) (input : Input) (number n : ℕ) (object : PicObject) → HasShape picture input
      → slice_get picture.objects number ≡ Some object → IsLengthOf object.kind object.length → object.length ≡ Above n → IsPastArray input n

-- ---- final heaps

-- the exact type of an object, and how many values it has
abbrev pub form_of : Object → ExactType × ℕ
form_of object = (object.kind, length object.values)

abbrev pub form_of_made : Made → ExactType × ℕ
form_of_made made = (made.kind, length made.values)

-- an ending names objects that there are, where there are so many
abbrev pub IsEndingWithin : ℕ → Ending → Type 0
IsEndingWithin objects (Returned None) = Unit {0}
IsEndingWithin objects (Returned (Some value)) = IsWithin objects value
IsEndingWithin objects (Threw object) = object < objects
IsEndingWithin objects (IllTyped place) = Unit {0}
IsEndingWithin objects (Past bound) = ⊥

-- The heap that an ended path states begins with objects of the exact types and lengths of the input's, and goes on with the
-- literals and the objects that the run made; and every reference in it and in the ending is to one of its objects.
pub record HasWholeHeap (world : World) (path : Path) (ended : Ended) (input : Input) : Type 0 where
  pub first : List Object
  pub made : List Object
  pub objects : (final_heap_of world path ended input).objects ≡ first ++ replicate (length world.literals) literal ++ made
  pub kept : map form_of first ≡ map form_of input.heap.objects
  pub new : map form_of made ≡ map form_of_made ended.made
  pub values : (object : Object) (value : Value) → Has (final_heap_of world path ended input).objects object → Has object.values value
      → IsWithin (length (final_heap_of world path ended input).objects) value
  pub ending : IsEndingWithin (length (final_heap_of world path ended input).objects) (ending_of world path ended input)

abbrev pub FinalHeapsAreWhole : Type 0
FinalHeapsAreWhole = (world : World) (id other : MethodId) (path : Path) (ended : Ended) (input : Input) → IsWellFormed world id path → path.leaf ≡ EndedLeaf ended
    → IsTypeCorrect world other input → IsInstance path input → HasWholeHeap world path ended input
