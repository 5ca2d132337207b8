-- Where the objects of a picture lie in an input: each is found by following its origin through the input's first heap, from
-- the argument on (as symbolic objects are reached in lazy initialisation: Khurshid, Păsăreanu and Visser, TACAS 2003). An
-- origin is followed in the same way for an object and for a location, and which object a location is plays no part in it.
use Rattle.std.specs.Prelude.{ℕ, List, [], ◌∷◌, ◌++◌, length, nat_lt, Option, Some, None, option_map, option_and_then, slice_get}
use Rattle.std.specs.Option.{option_map_or}
use Rattle.kb_heap.specs.declared.heap.Value.{Value}
use Rattle.kb_heap.specs.declared.heap.Value.TheVariants.{Int, Null, Ref}
use Rattle.kb_heap.specs.declared.heap.Heap.{Heap}
use Rattle.kb_heap.specs.declared.heap.Input.{Input}
use Rattle.kb_heap.specs.Heap.{value_at}
use Rattle.kb_semantics.specs.Looks.{only_where}
use Rattle.kb_picture.specs.declared.picture.Origin.{Origin}
use Rattle.kb_picture.specs.declared.picture.Origin.TheVariants.{Arg, Field, Element}
use Rattle.kb_picture.specs.declared.picture.PicLoc.{PicLoc}
use Rattle.kb_picture.specs.declared.picture.PicObject.{PicObject}
use Rattle.kb_picture.specs.declared.picture.Picture.{Picture}
use Rattle.kb_picture.specs.declared.picture.PlaceLists.{PlaceLists}

-- the value of that slot or element of the place of an object of the picture
abbrev pub value_in : Heap → List ℕ → ℕ → ℕ → Option Value
value_in heap places object slot = option_and_then (λ place. value_at heap place slot) (slice_get places object)

-- What a slot of the first heap holds, where `places` are the places of the picture's objects: an argument by its number, a
-- slot or an element of an object in the object's place. None where there is no such argument, object, slot or element.
abbrev pub slot_value : Input → List ℕ → Origin → Option Value
slot_value input places (Arg number) = slice_get input.args number
slot_value input places (Field object slot) = value_in input.heap places object slot
slot_value input places (Element array index) = value_in input.heap places array index

-- the object of the heap that a value names
abbrev pub object_named : Heap → Option Value → Option ℕ
object_named heap (Some (Ref object)) = only_where (nat_lt object (length heap.objects)) object
object_named heap (Some Null) = None
object_named heap (Some (Int z)) = None
object_named heap None = None

-- The place of an object or a location: the object of the input to which its origin leads, where `places` are the places of the
-- picture's objects. None where the origin leads to no object of the input.
unfoldable pub place_of : Input → List ℕ → Origin → Option ℕ
place_of input places origin = object_named input.heap (slot_value input places origin)

-- the places of objects behind those of the objects before them, from which they are found
abbrev pub objects_placed : Input → List ℕ → List PicObject → Option (List ℕ)
objects_placed input places [] = Some places
objects_placed input places (object ∷ others) =
    option_and_then (λ place. objects_placed input (places ++ place ∷ []) others) (place_of input places object.origin)

-- the places of locations, where `places` are those of the objects
abbrev pub locs_placed : Input → List ℕ → List PicLoc → Option (List ℕ)
locs_placed input places [] = Some []
locs_placed input places (loc ∷ others) =
    option_and_then (λ place. option_map (λ (more : List ℕ). place ∷ more) (locs_placed input places others)) (place_of input places loc.origin)

abbrev pub with_locs_placed : Input → List PicLoc → List ℕ → Option PlaceLists
with_locs_placed input locs objects = option_map (λ (places : List ℕ). record { objects = objects; locs = places }) (locs_placed input objects locs)

-- The places of a picture's objects and locations in an input: None where some origin leads to no object of the input.
unfoldable pub places_of : Picture → Input → Option PlaceLists
places_of picture input = option_and_then (with_locs_placed input picture.locs) (objects_placed input [] picture.objects)

abbrev pub no_places : PlaceLists
no_places = record { objects = []; locs = [] }

-- the same, where some place is missing as no places
abbrev pub places_found : Picture → Input → PlaceLists
places_found picture input = option_map_or (λ (places : PlaceLists). places) (places_of picture input) no_places
