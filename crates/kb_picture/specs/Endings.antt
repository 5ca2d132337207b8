-- What an ended path states of each of its instances: how the run ends, and the whole heap that it leaves (symbolic values give
-- the run's own when the input's are put in their places: King, 1976).
use Rattle.std.specs.Prelude.{ℕ, ◌+◌, ℤ, List, ◌++◌, length, map, fold, replicate, option_map}
use Rattle.std.specs.List.{slice_index_or}
use Rattle.kb_blast.specs.Meaning.{operand_value}
use Rattle.kb_heap.specs.declared.heap.Value.{Value}
use Rattle.kb_heap.specs.declared.heap.Value.TheVariants.{Int as IntValue, Null as NullValue, Ref}
use Rattle.kb_heap.specs.declared.heap.Object.{Object}
use Rattle.kb_heap.specs.declared.heap.Heap.{Heap}
use Rattle.kb_heap.specs.declared.heap.Input.{Input}
use Rattle.kb_heap.specs.declared.ending.Ending.{Ending}
use Rattle.kb_heap.specs.declared.ending.Ending.TheVariants.{Returned as RunReturned, Threw as RunThrew, IllTyped as RunIllTyped}
use Rattle.kb_heap.specs.Heap.{with_value, literal}
use Rattle.kb_classes.specs.World.{World}
use Rattle.kb_semantics.specs.Config.{Ended as RunEnded}
use Rattle.kb_picture.specs.declared.picture.Origin.{Origin}
use Rattle.kb_picture.specs.declared.picture.Origin.TheVariants.{Arg, Field, Element}
use Rattle.kb_picture.specs.declared.picture.PlaceLists.{PlaceLists}
use Rattle.kb_picture.specs.declared.path.Out.{Out}
use Rattle.kb_picture.specs.declared.path.Out.TheVariants.{Int, Null, Loc, Obj, Literal, New}
use Rattle.kb_picture.specs.declared.path.Write.{Write}
use Rattle.kb_picture.specs.declared.path.Made.{Made}
use Rattle.kb_picture.specs.declared.path.SymEnding.{SymEnding}
use Rattle.kb_picture.specs.declared.path.SymEnding.TheVariants.{Returned, Threw, IllTyped}
use Rattle.kb_picture.specs.declared.path.Ended.{Ended}
use Rattle.kb_picture.specs.declared.path.Path.{Path}
use Rattle.kb_picture.specs.Places.{places_found}
use Rattle.kb_picture.specs.Instances.{variable_values, term_values}

-- ---- the values at an input

-- What an input gives to symbolic values: the places of the picture's objects and locations, the values of the variables and
-- the terms, and how many objects and literals stand before those that the run makes.
pub record Reading : Type 0 where
  pub places : PlaceLists
  pub variables : List ℤ
  pub terms : List ℤ
  pub inputs : ℕ
  pub literals : ℕ

-- the place of that number; 0 where there is none, which no well-formed path has
abbrev pub place_at : List ℕ → ℕ → ℕ
place_at places number = slice_index_or places number 0

-- The value at an input: a location has the value of its place, whether it is open or bound, so that it keeps it when it is
-- bound. The literals stand behind the input's objects, and the objects of the run behind the literals.
abbrev pub out_value : Reading → Out → Value
out_value r (Int operand) = IntValue (operand_value r.variables r.terms operand)
out_value r Null = NullValue
out_value r (Loc number) = Ref (place_at r.places.locs number)
out_value r (Obj number) = Ref (place_at r.places.objects number)
out_value r (Literal number) = Ref (r.inputs + number)
out_value r (New number) = Ref (r.inputs + r.literals + number)

-- the object of a value: one that is no object is none that a run throws
abbrev pub number_of : Value → ℕ
number_of (Ref object) = object
number_of NullValue = 0
number_of (IntValue z) = 0

-- ---- the ending and the heap

abbrev pub ending_at : Reading → SymEnding → Ending
ending_at r (Returned value) = RunReturned (option_map (out_value r) value)
ending_at r (Threw value) = RunThrew (number_of (out_value r value))
ending_at r (IllTyped place) = RunIllTyped place

-- a heap with the value in the slot or the element of the object of the picture, at its place; arguments are not in the heap
abbrev pub with_write_in : Reading → Heap → Origin → Value → Heap
with_write_in r heap (Arg number) value = heap
with_write_in r heap (Field object slot) value = with_value heap (place_at r.places.objects object) slot value
with_write_in r heap (Element array index) value = with_value heap (place_at r.places.objects array) index value

abbrev pub with_write : Reading → Heap → Write → Heap
with_write r heap write = with_write_in r heap write.slot (out_value r write.value)

abbrev pub made_object : Reading → Made → Object
made_object r made = record { kind = made.kind; values = map (out_value r) made.values }

-- the objects of the first heap with all that the run wrote, then the literals of the world, then what the run made
abbrev pub heap_at : Reading → Heap → List Write → List Made → Heap
heap_at r heap writes made =
    record { objects = (fold (with_write r) heap writes).objects ++ replicate r.literals literal ++ map (made_object r) made }

-- ---- of a path

-- what an input gives to the symbolic values of a path
unfoldable pub reading_of : World → Path → Input → Reading
reading_of world path input =
    let places = places_found path.picture input in
    record {
      places = places;
      variables = variable_values path.picture input places.objects;
      terms = term_values path input places.objects;
      inputs = length input.heap.objects;
      literals = length world.literals;
    }

-- The ending that an ended path states for an instance.
unfoldable pub ending_of : World → Path → Ended → Input → Ending
ending_of world path ended input = ending_at (reading_of world path input) ended.ending

-- The heap that an ended path states for an instance.
unfoldable pub final_heap_of : World → Path → Ended → Input → Heap
final_heap_of world path ended input = heap_at (reading_of world path input) input.heap ended.writes ended.made

-- both, as a run has them
abbrev pub stated_end : World → Path → Ended → Input → RunEnded
stated_end world path ended input = record { ending = ending_of world path ended input; heap = final_heap_of world path ended input }
