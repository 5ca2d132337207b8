-- A test may be moved to another thread.
use denote.Param.Send.{IsSend, IsSync, struct_send, sendable}
use denote.Struct.Declared as S
use Rattle.std.proofs.Crossing.{crosses}
use Rattle.std.proofs.MapsCrossing.{crosses as maps}
use Rattle.kb_names.proofs.types.Component.TheLaws.TheKnot.{crosses as knot}
use Rattle.kb_heap.specs.contracts.bounds.RunBounds as RunBounds
use Rattle.kb_heap.specs.contracts.ending.Ending as Ending
use Rattle.kb_heap.specs.contracts.ending.Place as Place
use Rattle.kb_heap.specs.contracts.heap.Heap as Heap
use Rattle.kb_heap.specs.contracts.heap.Input as Input
use Rattle.kb_heap.specs.contracts.heap.Object as Object
use Rattle.kb_names.specs.contracts.name.Name as Name
use Rattle.kb_names.specs.contracts.types.ExactType as ExactType
use Rattle.kb_names.specs.contracts.types.JType as JType
use Rattle.kb_names.specs.contracts.types.MethodType as MethodType
use Rattle.kb_names.specs.contracts.types.Target as Target
use Rattle.kb_test.specs.contracts.final_heap.FinalHeap as FinalHeap
use Rattle.kb_test.specs.contracts.test_case.Test as Test

name_send : IsSend Name.the_field.row
name_send = search (knot, crosses, maps, sendable) depth 60

jtype_send : IsSend JType.the_field.row
jtype_send = search (knot, crosses, maps, sendable) depth 60

jtype_sync : IsSync JType.the_field.row
jtype_sync = search (knot, crosses, maps, sendable) depth 60

exact_send : IsSend ExactType.the_field.row
exact_send = let a = jtype_send in let b = name_send in search (knot, crosses, maps, sendable) depth 60

method_type_send : IsSend MethodType.the_field.row
method_type_send = let a = jtype_send in let b = jtype_sync in search (knot, crosses, maps, sendable) depth 60

target_send : IsSend Target.the_field.row
target_send = let a = name_send in let b = method_type_send in search (knot, crosses, maps, sendable) depth 60

object_send : IsSend Object.the_field.row
object_send = let a = exact_send in search (knot, crosses, maps, sendable) depth 60

pub heap_send : IsSend Heap.the_field.row
heap_send = let a = object_send in search (knot, crosses, maps, sendable) depth 60

input_send : IsSend Input.the_field.row
input_send = let a = heap_send in search (knot, crosses, maps, sendable) depth 60

place_send : IsSend Place.the_field.row
place_send = let a = target_send in search (knot, crosses, maps, sendable) depth 60

pub ending_send : IsSend Ending.the_field.row
ending_send = let a = place_send in search (knot, crosses, maps, sendable) depth 60

bounds_send : IsSend RunBounds.the_field.row
bounds_send = search (knot, crosses, maps, sendable) depth 60

final_heap_send : IsSend FinalHeap.the_field.row
final_heap_send = let a = object_send in let b = heap_send in search (knot, crosses, maps, sendable) depth 60

pub test_field_send : IsSend Test.the_field.row
test_field_send = struct_send (S.shape Test.the_type) (target_send, (bounds_send, (input_send, (ending_send, (final_heap_send, tt)))))

pub test_send : IsSend Test.the_row
test_send = let a = test_field_send in search (knot, crosses, maps, sendable) depth 60
