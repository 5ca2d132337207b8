-- How a run may end, and what of its first heap it keeps.
use Rattle.std.specs.Prelude.{◌≡◌, ℕ, ◌≤◌, List, ◌++◌, length, map, take, drop, replicate}
use Rattle.kb_heap.specs.declared.bounds.Bound.TheVariants.{K, Array, Alloc, Loops, Depth, Steps}
use Rattle.kb_heap.specs.declared.ending.Ending.{Ending}
use Rattle.kb_heap.specs.declared.ending.Ending.TheVariants.{Returned, Threw, IllTyped, Past}
use Rattle.kb_heap.specs.declared.heap.Heap.{Heap}
use Rattle.kb_heap.specs.declared.heap.Object.{Object}
use Rattle.kb_names.specs.declared.types.ExactType.{ExactType}
use Rattle.kb_heap.specs.Heap.{literal}

-- no run ends past a bound of explorations
abbrev pub IsRunEnding : Ending → Type 0
IsRunEnding (Returned value) = Unit {0}
IsRunEnding (Threw object) = Unit {0}
IsRunEnding (IllTyped place) = Unit {0}
IsRunEnding (Past K) = ⊥
IsRunEnding (Past Array) = ⊥
IsRunEnding (Past Alloc) = Unit {0}
IsRunEnding (Past Loops) = Unit {0}
IsRunEnding (Past Depth) = Unit {0}
IsRunEnding (Past Steps) = Unit {0}

-- an object's exact type, and how many values it has
abbrev pub Shape : Type 0
Shape = ExactType × ℕ

abbrev pub shape_of : Object → Shape
shape_of object = (object.kind, length object.values)

abbrev pub shapes : List Object → List Shape
shapes objects = map shape_of objects

-- a heap with as many objects of the same shapes, and perhaps more behind them
pub record Grows (before after : Heap) : Type 0 where
  pub more : List Shape
  pub is : shapes after.objects ≡ shapes before.objects ++ more

-- The heap begins with the input objects, of which each has kept its exact type and has as many values, and goes on with so many
-- literals, as they were.
pub record KeepsInput (literals : ℕ) (inputs : List Object) (heap : Heap) : Type 0 where
  pub inputs_there : length inputs ≤ length heap.objects
  pub inputs_kept : shapes (take (length inputs) heap.objects) ≡ shapes inputs
  pub literals_kept : take literals (drop (length inputs) heap.objects) ≡ replicate literals literal
