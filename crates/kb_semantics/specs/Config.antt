-- Configurations of the machine, and what its world says of them (The Java Virtual Machine Specification, Java SE 8 Edition,
-- sections 2.5, 2.6 and 4.7.3).
use Rattle.std.specs.Prelude.{ℕ, Bool, List, [], ◌∷◌, ◌-◌, ◌++◌, length, map, replicate, nat_lt, nat_le, nat_eq, Option, Some, None, cond, slice_get, slice_set, option_and_then}
use Rattle.std.specs.Option.{option_map_or}
use Rattle.kb_names.specs.declared.types.JType.{JType}
use Rattle.kb_names.specs.declared.types.Target.{Target}
use Rattle.kb_code.specs.Listing.{offset_of}
use Rattle.kb_code.specs.declared.instruction.Instr.{Instr}
use Rattle.kb_class.specs.declared.ids.MethodId.{MethodId}
use Rattle.kb_class.specs.declared.members.MethodCode.{MethodCode}
use Rattle.kb_class.specs.declared.members.MethodInfo.{MethodInfo}
use Rattle.kb_class.specs.Class.{Class}
use Rattle.kb_heap.specs.declared.bounds.RunBounds.{RunBounds}
use Rattle.kb_heap.specs.declared.ending.Ending.{Ending}
use Rattle.kb_heap.specs.declared.ending.Place.{Place}
use Rattle.kb_heap.specs.declared.heap.Value.{Value}
use Rattle.kb_heap.specs.declared.heap.Heap.{Heap}
use Rattle.kb_classes.specs.World.{World, method_at}
use Rattle.kb_classes.specs.Options.{only_where}

-- ---- configurations

-- what stays the same through a run
pub record Setting : Type 0 where
  pub world : World
  pub bounds : RunBounds

-- A frame (section 2.6): the method by its number, the offset of its instruction, the locals, of which one that was never
-- written is None, and the operand stack from the top down. `transfers` counts the transfers of control to an offset not
-- above one's own. A caller's frame stands at its invoke, with what the invoke left on the stack.
pub record Frame : Type 0 where
  pub method : MethodId
  pub at : ℕ
  pub locals : List (Option Value)
  pub stack : List Value
  pub transfers : ℕ

-- The current frame, the frames of its callers from the nearest on, and the heap: the objects of the input, of which there are
-- `inputs`, then the literals of the world, then the objects that the run has made. `carried` counts the instructions that
-- were carried out.
pub record Config : Type 0 where
  pub frame : Frame
  pub callers : List Frame
  pub heap : Heap
  pub inputs : ℕ
  pub carried : ℕ

-- a run's ending with the heap that it leaves
pub record Ended : Type 0 where
  pub ending : Ending
  pub heap : Heap

-- what one step gives
pub data Outcome : Type 0 where
  Goes : Config → Outcome
  Ends : Ended → Outcome

-- ---- methods

abbrev pub info_of : World → MethodId → Option MethodInfo
info_of world method = method_at world method.0

abbrev pub code_of : World → MethodId → Option MethodCode
code_of world method = option_and_then (λ (m : MethodInfo). m.code) (info_of world method)

-- the number of the class that declares the method
abbrev pub class_number : World → MethodId → ℕ
class_number world method = option_map_or (λ (m : MethodInfo). m.class.0) (info_of world method) 0

-- the type of its result, None for void
abbrev pub result_of : World → MethodId → Option JType
result_of world method = option_and_then (λ (m : MethodInfo). m.kind.result) (info_of world method)

abbrev pub class_name : World → ℕ → List ℕ
class_name world number = option_map_or (λ (c : Class). c.name) (slice_get world.classes number) []

abbrev pub no_target : Target
no_target = record { class = []; name = []; kind = record { params = []; result = None } }

-- the method by its class's name, its name and its type
abbrev pub target_of : World → MethodId → Target
target_of world method =
    option_map_or (λ (m : MethodInfo). record { class = class_name world m.class.0; name = m.name; kind = m.kind }) (info_of world method) no_target

-- ---- code

-- the instruction at an offset, and the offset of the one behind it, which is the code's length for the last one
abbrev pub instruction_in : List (ℕ × Instr) → ℕ → ℕ → Option (Instr × ℕ)
instruction_in [] size at = None
instruction_in (item ∷ rest) size at = cond (nat_eq item.0 at) (Some (item.1, offset_of rest size)) (instruction_in rest size at)

abbrev pub instruction_at : World → MethodId → ℕ → Option (Instr × ℕ)
instruction_at world method at = option_and_then (λ (code : MethodCode). instruction_in code.listing.items code.size at) (code_of world method)

-- the offset behind the instruction at an offset
abbrev pub behind : World → MethodId → ℕ → ℕ
behind world method at = option_map_or (λ (found : Instr × ℕ). found.1) (instruction_at world method at) at

-- an offset of a method's code, as endings tell it
abbrev pub place_in_code : World → MethodId → ℕ → Place
place_in_code world method at = record { method = target_of world method; at = at }

-- ---- locals and stacks (section 4.7.3)

abbrev pub max_locals_of : World → MethodId → ℕ
max_locals_of world method = option_map_or (λ (code : MethodCode). code.max_locals) (code_of world method) 0

abbrev pub max_stack_of : World → MethodId → ℕ
max_stack_of world method = option_map_or (λ (code : MethodCode). code.max_stack) (code_of world method) 0

-- the local of a number, where it lies below the limit and was written
abbrev pub local_of : World → Frame → ℕ → Option Value
local_of world frame k = cond (nat_lt k (max_locals_of world frame.method)) (option_and_then (λ v. v) (slice_get frame.locals k)) None

-- the locals with a value written into one of them, where it lies below the limit
abbrev pub with_local : World → Frame → ℕ → Value → Option (List (Option Value))
with_local world frame k v = only_where (nat_lt k (max_locals_of world frame.method)) (slice_set frame.locals k (Some v))

-- whether a stack of the method may have so many values
abbrev pub has_room : World → MethodId → ℕ → Bool
has_room world method height = nat_le height (max_stack_of world method)

-- the locals of a frame that begins with these arguments: it holds them all, whatever the limit is (own)
abbrev pub first_locals : List Value → ℕ → List (Option Value)
first_locals arguments limit = map (λ v. Some v) arguments ++ replicate (limit - length arguments) None

-- a frame that begins with these arguments
abbrev pub first_frame : World → MethodId → List Value → Frame
first_frame world method arguments =
    record { method = method; at = 0; locals = first_locals arguments (max_locals_of world method); stack = []; transfers = 0 }
