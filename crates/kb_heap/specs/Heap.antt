-- A heap as its list of objects: an object's number is its place in the list, and an object is its exact type and
-- the values of its slots or elements.
use Rattle.std.specs.Prelude.{ℕ, Option, Some, None, IsSome, [], ◌∷◌, ◌++◌, slice_get, slice_set, codes}
use Rattle.std.specs.Option.{option_and_then}
use Rattle.kb_names.specs.declared.types.ExactType.TheVariants as exact
use Rattle.kb_heap.specs.declared.heap.Value.{Value}
use Rattle.kb_heap.specs.declared.heap.Object.{Object}
use Rattle.kb_heap.specs.declared.heap.Heap.{Heap}

-- the object of that number, if there is one
abbrev pub object_at : Heap → ℕ → Option Object
object_at heap object = slice_get heap.objects object

-- the value of that slot or element of that object, if there is one
abbrev pub value_at : Heap → ℕ → ℕ → Option Value
value_at heap object slot = option_and_then (λ (of : Object). slice_get of.values slot) (object_at heap object)

-- there is such an object, and it has such a slot or element
abbrev pub IsPlace : Heap → ℕ → ℕ → Type 0
IsPlace heap object slot = IsSome (value_at heap object slot)

-- the object with that value in that slot or element
abbrev pub object_with : Object → ℕ → Value → Object
object_with of slot value = record { kind = of.kind; values = slice_set of.values slot value }

abbrev pub with_object_at : Heap → ℕ → ℕ → Value → Option Object → Heap
with_object_at heap object slot value None = heap
with_object_at heap object slot value (Some of) = record { objects = slice_set heap.objects object (object_with of slot value) }

-- the heap with that value in that slot or element of that object
abbrev pub with_value : Heap → ℕ → ℕ → Value → Heap
with_value heap object slot value = with_object_at heap object slot value (object_at heap object)

-- the heap with one object more, behind the others
abbrev pub with_object : Heap → Object → Heap
with_object heap of = record { objects = heap.objects ++ of ∷ [] }

-- The object of a string literal: a String (The Java Virtual Machine Specification, Java SE 8 Edition, section 5.1). It is
-- opaque, so that it has no slots (own).
abbrev pub literal : Object
literal = record { kind = exact.Class (codes "java/lang/String"); values = [] }
