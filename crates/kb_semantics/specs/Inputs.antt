-- Type-correct inputs (JVMS 8 sections 2.3, 2.4, 2.7 and 4.3.3; which objects an input may have is an own rule).
use Rattle.std.specs.Prelude.{◌≡◌, ◌<◌, ◌^◌, Bool, true, false, List, ◌∷◌, length, map, Some, if◌then◌else◌}
use Rattle.std.specs.List.{AllByRecursion}
use Rattle.kb_names.specs.declared.types.ExactType.{ExactType}
use Rattle.kb_names.specs.declared.types.ExactType.TheVariants as exact
use Rattle.kb_names.specs.declared.types.JType.{JType}
use Rattle.kb_names.specs.declared.types.JType.TheVariants as types
use Rattle.kb_class.specs.declared.ids.MethodId.{MethodId}
use Rattle.kb_class.specs.declared.members.MethodInfo.{MethodInfo}
use Rattle.kb_class.specs.Naming.{Has}
use Rattle.kb_class.specs.Members.{is_static}
use Rattle.kb_heap.specs.declared.heap.Value.{Value}
use Rattle.kb_heap.specs.declared.heap.Value.TheVariants.{Ref}
use Rattle.kb_heap.specs.declared.heap.Object.{Object}
use Rattle.kb_heap.specs.declared.heap.Heap.{Heap}
use Rattle.kb_heap.specs.declared.heap.Input.{Input}
use Rattle.kb_classes.specs.World.{World}
use Rattle.kb_classes.specs.declared.slots.FieldSlot.{FieldSlot}
use Rattle.kb_semantics.specs.Config.{info_of, class_name}
use Rattle.kb_semantics.specs.Values.{IsValueOf, AreValuesOf, slots_of_class}

-- The values are those of an object of the exact type: one for each slot of a class; of an array's component, so many as an int
-- can count.
abbrev pub HasValuesOf : World → Heap → ExactType → List Value → Type 0
HasValuesOf world heap (exact.Class name) values = AreValuesOf world heap (map (λ (slot : FieldSlot). slot.kind) (slots_of_class world name)) values
HasValuesOf world heap (exact.Array component) values =
    (length values < 2 ^ 31) × AllByRecursion (IsValueOf world heap component) values

-- The object is one that an input may have.
pub record IsInputObject (world : World) (heap : Heap) (object : Object) : Type 0 where
  pub universe : Has world.universe object.kind
  pub values : HasValuesOf world heap object.kind object.values

-- the types of a method's arguments: a receiver's class before those of the parameters
abbrev pub argument_types : World → MethodInfo → List JType
argument_types world method =
    if is_static method.access then method.kind.params else types.Class (class_name world method.class.0) ∷ method.kind.params

-- a method that is not static has a receiver, which is not null
abbrev pub HasReceiver : Bool → List Value → Type 0
HasReceiver true args = Unit {0}
HasReceiver false (Ref o ∷ args) = Unit {0}
HasReceiver false args = ⊥

-- The input is one of the method: each of its objects is one that an input may have, whether an argument leads to it or not, and
-- its arguments are those that the method takes.
pub record IsTypeCorrect (world : World) (id : MethodId) (input : Input) : Type 0 where
  pub method : MethodInfo
  pub method_is : info_of world id ≡ Some method
  pub objects : AllByRecursion (IsInputObject world input.heap) input.heap.objects
  pub arguments : AreValuesOf world input.heap (argument_types world method) input.args
  pub receiver : HasReceiver (is_static method.access) input.args
