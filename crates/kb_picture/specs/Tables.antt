-- Which objects of an input are places of objects of a picture, as a table over the input's objects that is made once: by it an
-- object is told to be the place of none, and two objects of the picture to have two places, with no walk over all places.
use Rattle.std.specs.Prelude.{◌≡◌, ◌↔◌, ℕ, Bool, true, false, List, [], ◌∷◌, ◌==◌, not, replicate, slice_set, Option, Some, None, slice_get}
use Rattle.kb_heap.specs.declared.heap.Value.{Value}
use Rattle.kb_heap.specs.declared.heap.Value.TheVariants.{Int, Null, Ref}
use Rattle.kb_picture.specs.declared.picture.PicLoc.{PicLoc}
use Rattle.kb_picture.specs.Shapes.{IsNoPlace, Stands}

-- whether the object of that number is marked; one that the table does not have is not
abbrev pub mark_at : Option Bool → Bool
mark_at (Some mark) = mark
mark_at None = false

abbrev pub is_marked : List Bool → ℕ → Bool
is_marked table object = mark_at (slice_get table object)

-- the table with the place marked as well, and all that follow: None where one is marked already, or is none of the table's
abbrev pub marked_at : Option Bool → Option (List Bool) → Option (List Bool)
marked_at (Some false) more = more
marked_at (Some true) more = None
marked_at None more = None

abbrev pub marked : List Bool → List ℕ → Option (List Bool)
marked table [] = Some table
marked table (place ∷ others) = marked_at (slice_get table place) (marked (slice_set table place true) others)

-- the table of so many objects with each of the places marked once
abbrev pub marks_of : ℕ → List ℕ → Option (List Bool)
marks_of objects places = marked (replicate objects false) places

-- the table tells of each object whether it is none of the places
pub record Tells (table : List Bool) (places : List ℕ) : Type 0 where
  pub elsewhere : (object : ℕ) → (is_marked table object ≡ false) ↔ IsNoPlace places object

-- ---- lists by pairs

-- each item fits the place of its number
abbrev pub EachPair : {A : Type 0} → (A → ℕ → Type 0) → List A → List ℕ → Type 0
EachPair Fits [] places = Unit {0}
EachPair Fits (item ∷ items) [] = Unit {0}
EachPair Fits (item ∷ items) (place ∷ places) = Fits item place × EachPair Fits items places

-- the place of a location is what it stands for
abbrev pub StandsAt : List ℕ → PicLoc → ℕ → Type 0
StandsAt objects loc place = Stands objects loc.standing place

-- ---- tests of values

abbrev pub is_int : Option Value → Bool
is_int (Some (Int z)) = true
is_int (Some Null) = false
is_int (Some (Ref object)) = false
is_int None = false

abbrev pub is_null : Option Value → Bool
is_null (Some (Int z)) = false
is_null (Some Null) = true
is_null (Some (Ref object)) = false
is_null None = false

-- whether the value is that place
abbrev pub is_place : Option ℕ → Option Value → Bool
is_place (Some place) (Some (Ref object)) = place == object
is_place (Some place) (Some (Int z)) = false
is_place (Some place) (Some Null) = false
is_place (Some place) None = false
is_place None value = false

-- whether there is an object, and it is not marked
abbrev pub is_further : List Bool → Option ℕ → Bool
is_further table (Some object) = not (is_marked table object)
is_further table None = false
