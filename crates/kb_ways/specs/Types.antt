-- The exact types of objects in a state, and of which types they are (JVMS 8 sections 2.4, 4.10.1.2 and 6.5, checkcast,
-- instanceof and aastore).
use Rattle.std.specs.Prelude.{Bool, false, Option, Some}
use Rattle.std.specs.Option.{option_map_or}
use Rattle.kb_names.specs.declared.types.ExactType.{ExactType}
use Rattle.kb_names.specs.declared.types.JType.{JType}
use Rattle.kb_heap.specs.Heap.{literal}
use Rattle.kb_classes.specs.World.{World}
use Rattle.kb_classes.specs.Subtypes.{fits}
use Rattle.kb_frames.specs.declared.value.SymValue.{SymValue}
use Rattle.kb_frames.specs.declared.value.SymValue.TheVariants.{Literal}
use Rattle.kb_frames.specs.State.{State}
use Rattle.kb_frames.specs.Heaps.{exact_type_of}

-- the exact type of the object that a value is: a literal is a java/lang/String
abbrev pub object_type : State → SymValue → Option ExactType
object_type state (Literal number) = Some literal.kind
object_type state value = exact_type_of state value

-- whether the value is an object of the type
abbrev pub is_object_of : World → State → JType → SymValue → Bool
is_object_of world state type value = option_map_or (λ (kind : ExactType). fits world kind type) (object_type state value) false
