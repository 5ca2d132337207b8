-- What the types of the values of a test tell of its numbers: an int is of 32 bits with sign (JVMS 8 section 2.3.1), and the
-- offset of an instruction is below 2^32.
use Rattle.std.specs.Prelude.{◌<◌, ◌^◌, None, Some}
use Rattle.std.specs.Int.{w32}
use Rattle.std.specs.Int.RustNames.{FitsSigned}
use Rattle.std.specs.List.{AllByRecursion}
use Rattle.kb_heap.specs.declared.ending.Ending.{Ending}
use Rattle.kb_heap.specs.declared.ending.Ending.TheVariants.{Returned, Threw, IllTyped, Past}
use Rattle.kb_heap.specs.declared.heap.Heap.{Heap}
use Rattle.kb_heap.specs.declared.heap.Input.{Input}
use Rattle.kb_heap.specs.declared.heap.Object.{Object}
use Rattle.kb_heap.specs.declared.heap.Value.{Value}
use Rattle.kb_heap.specs.declared.heap.Value.TheVariants.{Int, Null, Ref}

abbrev pub HasRange : Value → Type 0
HasRange (Int number) = FitsSigned w32 number
HasRange Null = Unit {0}
HasRange (Ref object) = Unit {0}

abbrev pub HasRanges : Object → Type 0
HasRanges object = AllByRecursion HasRange object.values

abbrev pub EndingHasRange : Ending → Type 0
EndingHasRange (Returned None) = Unit {0}
EndingHasRange (Returned (Some value)) = HasRange value
EndingHasRange (Threw object) = Unit {0}
EndingHasRange (IllTyped place) = place.at < 2 ^ 32
EndingHasRange (Past bound) = Unit {0}

-- all numbers of a test
pub record HaveRanges (input : Input) (ending : Ending) (heap : Heap) : Type 0 where
  pub args : AllByRecursion HasRange input.args
  pub inputs : AllByRecursion HasRanges input.heap.objects
  pub objects : AllByRecursion HasRanges heap.objects
  pub ends : EndingHasRange ending
