-- The input that a path carries: one of those that have its picture, with given values in the slots that are seen as variables
-- (test inputs from solved path conditions: King, 1976; Khurshid, Păsăreanu and Visser, TACAS 2003). Which of the instances it
-- is, is an own rule: the objects of the picture, each that is not known one of its own, and 0 or null where nothing was read.
use Rattle.std.specs.Prelude.{ℕ, suc, ℤ, Bool, true, false, List, [], ◌∷◌, ◌++◌, length, map, fold, slice_get, slice_set, Option, Some, None, option_and_then, if◌then◌else◌}
use Rattle.std.specs.List.{find, flat_map}
use Rattle.std.specs.Option.{option_map_or}
use Rattle.kb_class.specs.declared.ids.MethodId.{MethodId}
use Rattle.kb_heap.specs.Heap.{with_value}
use Rattle.kb_heap.specs.declared.heap.Input.{Input}
use Rattle.kb_heap.specs.declared.heap.Object.{Object}
use Rattle.kb_heap.specs.declared.heap.Value.{Value}
use Rattle.kb_heap.specs.declared.heap.Value.TheVariants.{Int as IntValue, Null as NullValue, Ref}
use Rattle.kb_classes.specs.Subtypes.{fits}
use Rattle.kb_classes.specs.World.{World}
use Rattle.kb_names.specs.declared.types.ExactType.{ExactType}
use Rattle.kb_names.specs.declared.types.ExactType.TheVariants as exact
use Rattle.kb_names.specs.declared.types.JType.{JType}
use Rattle.kb_names.specs.declared.types.JType.TheVariants as types
use Rattle.kb_semantics.specs.Config.{info_of}
use Rattle.kb_semantics.specs.Inputs.{argument_types}
use Rattle.kb_semantics.specs.Instructions.{new_array}
use Rattle.kb_semantics.specs.Values.{default_of, new_object}
use Rattle.kb_terms.specs.Terms.{int_at}
use Rattle.kb_picture.specs.declared.picture.Origin.{Origin}
use Rattle.kb_picture.specs.declared.picture.Origin.TheVariants.{Arg, Field, Element}
use Rattle.kb_picture.specs.declared.picture.Seen.{Seen}
use Rattle.kb_picture.specs.declared.picture.Seen.TheVariants.{Int, Null, Loc, Obj, Beyond}
use Rattle.kb_picture.specs.declared.picture.Standing.{Standing}
use Rattle.kb_picture.specs.declared.picture.Standing.TheVariants as standings
use Rattle.kb_picture.specs.declared.picture.Length.{Length}
use Rattle.kb_picture.specs.declared.picture.Length.TheVariants.{Plain, Is, Above}
use Rattle.kb_picture.specs.declared.picture.PicLoc.{PicLoc}
use Rattle.kb_picture.specs.declared.picture.PicObject.{PicObject}
use Rattle.kb_picture.specs.declared.picture.Picture.{Picture}
use Rattle.kb_picture.specs.Queries.{type_of_slot}

-- ---- objects of which nothing was read

-- 0 or null in each slot, or in each of so many elements
abbrev pub unread_object : World → ExactType → ℕ → Object
unread_object world (exact.Class name) count = new_object world name
unread_object world (exact.Array component) count = new_array component count

-- how many elements an array has: one that is longer than n has n + 1
abbrev pub count_of : Length → ℕ
count_of Plain = 0
count_of (Is n) = n
count_of (Above n) = suc n

abbrev pub unread_of : World → PicObject → Object
unread_of world object = unread_object world object.kind (count_of object.length)

-- ---- objects of one's own

-- a location is an object of its own, unless it is one of the picture's
abbrev pub is_apart : Standing → Bool
is_apart standings.Open = true
is_apart standings.Beyond = true
is_apart (standings.Obj number) = false

abbrev pub is_apart_at : List PicLoc → ℕ → Bool
is_apart_at locs number = option_map_or (λ (loc : PicLoc). is_apart loc.standing) (slice_get locs number) false

-- the slot holds an object that is none of the picture's: a location's that is open or beyond, or one that is beyond
abbrev pub has_own : Picture → Seen → Bool
has_own picture (Int number) = false
has_own picture Null = false
has_own picture (Loc number) = is_apart_at picture.locs number
has_own picture (Obj number) = false
has_own picture Beyond = true

-- the first exact type of the universe that fits
abbrev pub first_fitting : World → JType → Option ExactType
first_fitting world type = find (λ kind. fits world kind type) world.universe

-- That exact type. Where none fits, as in no picture that keeps its types, that of an array of ints.
abbrev pub own_kind : Option ExactType → ExactType
own_kind None = exact.Array types.Int
own_kind (Some kind) = kind

-- the object of a slot that has one of its own: an array has no elements
abbrev pub own_object : World → MethodId → Picture → Origin → Object
own_object world id picture slot =
    unread_object world (own_kind (option_and_then (first_fitting world) (type_of_slot world id picture.objects slot))) 0

abbrev pub own_objects_of : World → MethodId → Picture → Origin × Seen → List Object
own_objects_of world id picture slot = if has_own picture slot.1 then own_object world id picture slot.0 ∷ [] else []

-- those of the slots that have one of their own, in the order of reading
abbrev pub own_objects : World → MethodId → Picture → List (Origin × Seen) → List Object
own_objects world id picture seen = flat_map (own_objects_of world id picture) seen

-- ---- the input of which nothing was read

-- the types of the arguments of a method
abbrev pub arguments_of : World → MethodId → List JType
arguments_of world id = option_map_or (argument_types world) (info_of world id) []

-- the objects of the picture by their numbers, then those of their own
abbrev pub unread_objects : World → MethodId → Picture → List Object
unread_objects world id picture = map (unread_of world) picture.objects ++ own_objects world id picture picture.seen

-- 0 or null in each argument and in each slot of each object
abbrev pub unread_input : World → MethodId → Picture → Input
unread_input world id picture = record {
  heap = record { objects = unread_objects world id picture };
  args = map default_of (arguments_of world id);
}

-- ---- what was read

-- what a location is: an object of the picture, or the object of that number
abbrev pub location_number : ℕ → Standing → ℕ
location_number own standings.Open = own
location_number own standings.Beyond = own
location_number own (standings.Obj number) = number

abbrev pub location_number_at : List PicLoc → ℕ → ℕ → ℕ
location_number_at locs own number = option_map_or (λ (loc : PicLoc). location_number own loc.standing) (slice_get locs number) own

-- What a slot holds that is seen so, where its own object, if it has one, has the number `own`: a variable's value, null, an
-- object of the picture by its number, or its own.
abbrev pub seen_value : Picture → List ℤ → ℕ → Seen → Value
seen_value picture values own (Int number) = IntValue (int_at values number)
seen_value picture values own Null = NullValue
seen_value picture values own (Loc number) = Ref (location_number_at picture.locs own number)
seen_value picture values own (Obj number) = Ref number
seen_value picture values own Beyond = Ref own

abbrev pub number_behind : Picture → ℕ → Seen → ℕ
number_behind picture own seen = if has_own picture seen then suc own else own

-- The slots that were read, with what they hold: the first object of one's own has the number `own`, each further one the next.
abbrev pub held_from : Picture → List ℤ → ℕ → List (Origin × Seen) → List (Origin × Value)
held_from picture values own [] = []
held_from picture values own (slot ∷ seen) =
    (slot.0, seen_value picture values own slot.1) ∷ held_from picture values (number_behind picture own slot.1) seen

-- the input with a value in a slot, where the objects of the picture have their own numbers
abbrev pub with_slot : Input → Origin → Value → Input
with_slot input (Arg number) value = record input { args = slice_set input.args number value }
with_slot input (Field object slot) value = record input { heap = with_value input.heap object slot value }
with_slot input (Element array index) value = record input { heap = with_value input.heap array index value }

abbrev pub with_held : Input → Origin × Value → Input
with_held input held = with_slot input held.0 held.1

-- The input of a picture and of values for its variables: 0 or null in each slot, but what is seen in those that were read.
unfoldable pub emitted_input : World → MethodId → Picture → List ℤ → Input
emitted_input world id picture values = fold with_held (unread_input world id picture) (held_from picture values (length picture.objects) picture.seen)
