-- The ways in which a step goes on or ends. Each states its order of tests once, and every instruction goes by them
-- (JVMS 8 sections 2.6, 2.10 and 6.5; the bounds and what is ill-typed are own rules).
use Rattle.std.specs.Prelude.{ℕ, ◌+◌, Bool, false, ◌==◌, ◌&&◌, ◌||◌, is_some, suc, List, [], ◌∷◌, length, nat_le, nat_lt, Option, Some, None, drop, map, option_map, option_and_then, codes, if◌then◌else◌}
use Rattle.std.specs.Option.{option_map_or}
use Rattle.kb_names.specs.declared.types.ExactType.{ExactType}
use Rattle.kb_names.specs.declared.types.ExactType.TheVariants as exact
use Rattle.kb_code.specs.declared.listing.Handler.{Handler}
use Rattle.kb_class.specs.declared.ids.MethodId.{MethodId}
use Rattle.kb_class.specs.declared.members.MethodCode.{MethodCode}
use Rattle.kb_heap.specs.declared.bounds.Bound.{Bound}
use Rattle.kb_heap.specs.declared.bounds.Bound.TheVariants.{Loops, Depth}
use Rattle.kb_heap.specs.declared.bounds.RunBounds.{RunBounds}
use Rattle.kb_heap.specs.declared.ending.Ending.{Ending}
use Rattle.kb_heap.specs.declared.ending.Ending.TheVariants.{Returned, Threw, IllTyped, Past}
use Rattle.kb_heap.specs.declared.heap.Value.{Value}
use Rattle.kb_heap.specs.declared.heap.Value.TheVariants.{Ref}
use Rattle.kb_heap.specs.declared.heap.Heap.{Heap}
use Rattle.kb_heap.specs.Heap.{with_object}
use Rattle.kb_classes.specs.World.{World, type_entry_of}
use Rattle.kb_classes.specs.Subtypes.{fits, type_of_exact}
use Rattle.kb_classes.specs.Options.{only_where}
use Rattle.kb_semantics.specs.Config.{Setting, Frame, Config, Outcome, Goes, Ends, code_of, class_number, result_of, place_in_code, behind, has_room, first_frame}
use Rattle.kb_semantics.specs.Values.{kept, new_object}

-- ---- the run ends, with the heap from before the instruction

abbrev pub ends : Config → Ending → Outcome
ends c ending = Ends (record { ending = ending; heap = c.heap })

-- as ill-typed, at the instruction that was taken up
abbrev pub ill_typed : Setting → Config → Outcome
ill_typed s c = ends c (IllTyped (place_in_code s.world c.frame.method c.frame.at))

-- past a bound
abbrev pub past : Config → Bound → Outcome
past c bound = ends c (Past bound)

-- ---- it goes on

-- with these frames and this heap; the instruction was carried out
abbrev pub carries_out : Config → Frame → List Frame → Heap → Outcome
carries_out c frame callers heap = Goes (record { frame = frame; callers = callers; heap = heap; inputs = c.inputs; carried = c.carried + 1 })

-- With these locals, this stack, for which the frame must have room, and this heap, at the next offset.
unfoldable pub goes_on : Setting → Config → ℕ → List (Option Value) → List Value → Heap → Outcome
goes_on s c next locals stack heap =
    if has_room s.world c.frame.method (length stack)
    then carries_out c (record c.frame { at = next; locals = locals; stack = stack }) c.callers heap
    else ill_typed s c

-- with the same locals
abbrev pub goes_with : Setting → Config → ℕ → List Value → Heap → Outcome
goes_with s c next stack heap = goes_on s c next c.frame.locals stack heap

-- with the same locals and heap
abbrev pub goes : Setting → Config → ℕ → List Value → Outcome
goes s c next stack = goes_with s c next stack c.heap

-- ---- it branches

-- The count of transfers behind a transfer of control from an offset to a target. One to an offset not above one's own counts;
-- None where it would be one more than the bound.
abbrev pub counted : RunBounds → ℕ → ℕ → ℕ → Option ℕ
counted bounds at target transfers =
    if nat_le target at then only_where (nat_lt transfers bounds.loops) (transfers + 1) else Some transfers

-- A frame goes on at a target with this stack, these callers and this heap: ill-typed comes before the bound.
unfoldable pub goes_to : Setting → Config → Frame → List Frame → ℕ → List Value → Heap → Outcome
goes_to s c frame callers target stack heap =
    if has_room s.world frame.method (length stack)
    then option_map_or (λ transfers. carries_out c (record frame { at = target; stack = stack; transfers = transfers }) callers heap)
    (counted s.bounds frame.at target frame.transfers) (past c Loops)
    else ill_typed s c

-- the current frame goes on at a target
abbrev pub jumps : Setting → Config → ℕ → List Value → Outcome
jumps s c target stack = goes_to s c c.frame c.callers target stack c.heap

-- at the target where that is so, else at the next offset
abbrev pub branches : Setting → Config → ℕ → ℕ → Bool → List Value → Outcome
branches s c next target so stack = if so then jumps s c target stack else goes s c next stack

-- ---- it throws (section 2.10)

-- The entry of an exception table covers the offset, from its start and below its end, and takes an object of the exact type: any
-- object, or one of a class below its own. One of a class outside the world takes none.
abbrev pub is_taken_by : World → ℕ → ℕ → ExactType → Handler → Bool
is_taken_by world class at kind handler =
    nat_le handler.start at && nat_lt at handler.end
    && ((handler.catch == 0) || option_map_or (λ type. fits world kind (type_of_exact type)) (type_entry_of world class handler.catch) false)

-- where the first such entry goes on
abbrev pub handler_among : World → ℕ → ℕ → ExactType → List Handler → Option ℕ
handler_among world class at kind [] = None
handler_among world class at kind (handler ∷ others) =
    if is_taken_by world class at kind handler then Some handler.target else handler_among world class at kind others

-- that of a method at an offset
abbrev pub handler_at : World → MethodId → ℕ → ExactType → Option ℕ
handler_at world method at kind =
    option_and_then (λ (code : MethodCode). handler_among world (class_number world method) at kind code.handlers) (code_of world method)

-- a frame's method and the offset at which it stands: a caller stands at its invoke
abbrev pub Standpoint : Type 0
Standpoint = MethodId × ℕ

abbrev pub standpoint : Frame → Standpoint
standpoint frame = (frame.method, frame.at)

-- The nearest handler on the way from a frame to its callers: how many frames are left on the way, and where it goes on.
unfoldable pub nearest_handler : World → ExactType → List Standpoint → Option (ℕ × ℕ)
nearest_handler world kind [] = None
nearest_handler world kind (at ∷ others) =
    option_map_or (λ target. Some (0, target)) (handler_at world at.0 at.1 kind) (option_map (λ (found : ℕ × ℕ). (suc found.0, found.1)) (nearest_handler world kind others))

-- the first of these frames goes on at a target, with nothing but the object on its stack
abbrev pub lands : Setting → Config → Heap → ℕ → ℕ → List Frame → Outcome
lands s c heap object target [] = ill_typed s c
lands s c heap object target (frame ∷ callers) = goes_to s c frame callers target (Ref object ∷ []) heap

-- An object of the heap is thrown: the nearest handler takes it, and where there is none the run ends.
unfoldable pub throws_in : Setting → Config → Heap → ℕ → ExactType → Outcome
throws_in s c heap object kind =
    option_map_or (λ (found : ℕ × ℕ). lands s c heap object found.1 (drop found.0 (c.frame ∷ c.callers)))
    (nearest_handler s.world kind (map standpoint (c.frame ∷ c.callers)))
    (Ends (record { ending = Threw object; heap = heap }))

-- an object that is there
abbrev pub throws_object : Setting → Config → ℕ → ExactType → Outcome
throws_object s c object kind = throws_in s c c.heap object kind

-- A new object of the class is thrown.
unfoldable pub throws : Setting → Config → List ℕ → Outcome
throws s c class = throws_in s c (with_object c.heap (new_object s.world class)) (length c.heap.objects) (exact.Class class)

abbrev pub null_pointer : List ℕ
null_pointer = codes "java/lang/NullPointerException"

abbrev pub arithmetic : List ℕ
arithmetic = codes "java/lang/ArithmeticException"

abbrev pub index_outside : List ℕ
index_outside = codes "java/lang/ArrayIndexOutOfBoundsException"

abbrev pub array_store : List ℕ
array_store = codes "java/lang/ArrayStoreException"

abbrev pub class_cast : List ℕ
class_cast = codes "java/lang/ClassCastException"

abbrev pub negative_size : List ℕ
negative_size = codes "java/lang/NegativeArraySizeException"

-- ---- it calls and returns

-- A method with code begins with these arguments, and `rest` is left on the caller's stack.
unfoldable pub enters : Setting → Config → MethodId → List Value → List Value → Outcome
enters s c method arguments rest =
    if nat_lt (suc (length c.callers)) s.bounds.depth
    then carries_out c (first_frame s.world method arguments) (record c.frame { stack = rest } ∷ c.callers) c.heap
    else past c Depth

-- a result on a stack: none of void
abbrev pub pushed : Option Value → List Value → List Value
pushed None stack = stack
pushed (Some v) stack = v ∷ stack

abbrev pub hands_to : Setting → Config → List Frame → Option Value → Outcome
hands_to s c [] result = ends c (Returned result)
hands_to s c (caller ∷ more) result =
    if has_room s.world caller.method (length (pushed result caller.stack))
    then carries_out c (record caller { at = behind s.world caller.method caller.at; stack = pushed result caller.stack }) more c.heap
    else ill_typed s c

-- The method's result is handed to the caller's stack, which must have room, and the caller goes on behind its invoke; with no
-- caller the run ends.
unfoldable pub hands_over : Setting → Config → Option Value → Outcome
hands_over s c result = hands_to s c c.callers result

-- The method returns a value, which must be one that its result type keeps.
unfoldable pub returns_value : Setting → Config → Value → Outcome
returns_value s c value =
    option_map_or (λ v. hands_over s c (Some v)) (option_and_then (λ type. kept type value) (result_of s.world c.frame.method)) (ill_typed s c)

-- The method returns nothing, which it must be declared to.
unfoldable pub returns_nothing : Setting → Config → Outcome
returns_nothing s c = if is_some (result_of s.world c.frame.method) then ill_typed s c else hands_over s c None
