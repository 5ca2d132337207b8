-- The ways in which a step of a state goes on or ends, each the counterpart of the machine's way of that name (JVMS 8 sections
-- 2.6, 2.10 and 6.5; the bounds and what is ill-typed are own rules).
use Rattle.std.specs.Prelude.{ℕ, suc, List, [], ◌∷◌, drop, length, map, nat_lt, Option, Some, None, option_map, if◌then◌else◌}
use Rattle.std.specs.Option.{option_map_or}
use Rattle.kb_class.specs.declared.ids.MethodId.{MethodId}
use Rattle.kb_heap.specs.declared.bounds.Bound.TheVariants.{Loops, Depth}
use Rattle.kb_heap.specs.declared.bounds.Bounds.{Bounds}
use Rattle.kb_classes.specs.World.{World}
use Rattle.kb_names.specs.declared.types.ExactType.{ExactType}
use Rattle.kb_names.specs.declared.types.ExactType.TheVariants as exact
use Rattle.kb_semantics.specs.Config.{behind, has_room, place_in_code}
use Rattle.kb_semantics.specs.Ways.{Standpoint, counted, nearest_handler}
use Rattle.kb_picture.specs.declared.path.SymEnding.{SymEnding}
use Rattle.kb_picture.specs.declared.path.SymEnding.TheVariants.{Returned, Threw, IllTyped}
use Rattle.kb_frames.specs.declared.value.SymValue.{SymValue}
use Rattle.kb_frames.specs.declared.value.SymValue.TheVariants.{New, Obj}
use Rattle.kb_frames.specs.declared.value.Outcome.{Outcome}
use Rattle.kb_frames.specs.declared.value.Outcome.TheVariants.{Goes as OutcomeGoes, Ends, Cut}
use Rattle.kb_frames.specs.declared.frame.FrameAt.{FrameAt}
use Rattle.kb_frames.specs.declared.frame.SymFrame.{SymFrame}
use Rattle.kb_frames.specs.State.{State}
use Rattle.kb_frames.specs.StandsFor.{out_of}
use Rattle.kb_frames.specs.Calls.{called, frame_told, frames_of, landed, left}
use Rattle.kb_frames.specs.Lent.{on_frame, callers_of, carried_on, transfers_of, locals_of}
use Rattle.kb_frames.specs.Making.{with_made}
use Rattle.kb_frames.specs.Next.{method_now, offset_now}

-- what a take leaves, and what becomes of it
pub record Take : Type 0 where
  pub state : State
  pub outcome : Outcome

-- an object that is there: the one of that number of the picture, or of those that the run has made
pub data ObjectThere : Type 0 where
  OfPicture : ℕ → ObjectThere
  OfRun : ℕ → ObjectThere

abbrev pub object_value : ObjectThere → SymValue
object_value (OfPicture number) = Obj number
object_value (OfRun number) = New number

-- A way on: at the next offset with these locals and this stack; at a target with this stack; into a method with code, with
-- these arguments and the stack that is left here; out of the method, with a value or none; by a new object of a class that is
-- thrown, or by an object that is there, of that exact type; or none, since the instruction is ill-typed.
pub data Way : Type 0 where
  Goes : List (Option SymValue) → List SymValue → Way
  Jumps : ℕ → List SymValue → Way
  Enters : MethodId → List SymValue → List SymValue → Way
  Leaves : Option SymValue → Way
  Throws : List ℕ → Way
  ThrowsThere : ObjectThere → ExactType → Way
  Fails : Way

-- ---- each way

abbrev pub ends : State → SymEnding → Take
ends state ending = record { state = state; outcome = Ends ending }

-- the run ends as ill-typed, at the instruction that was taken up
abbrev pub ill_typed : World → State → Take
ill_typed world state = ends state (IllTyped (place_in_code world (method_now state.method state.stage) (offset_now state.stage)))

-- the instruction was carried out, and the frame is this
abbrev pub carries_out : State → (SymFrame → SymFrame) → Take
carries_out state f = record { state = carried_on (on_frame f state); outcome = OutcomeGoes }

-- the current frame must have room for so many values
abbrev pub where_room : World → State → ℕ → Take → Take
where_room world state height take = if has_room world (method_now state.method state.stage) height then take else ill_typed world state

-- it goes on at the next offset
abbrev pub goes_on : World → ℕ → State → List (Option SymValue) → List SymValue → Take
goes_on world next state locals stack =
    where_room world state (length stack) (carries_out state (λ (frame : SymFrame). record frame { at = next; locals = locals; stack = stack }))

-- it goes on at a target, with one transfer more where that is not above the offset; the bound comes behind what is ill-typed
abbrev pub jumps : World → Bounds → State → ℕ → List SymValue → Take
jumps world bounds state target stack =
    where_room world state (length stack)
    (option_map_or (λ transfers. carries_out state (λ (frame : SymFrame). record frame { at = target; stack = stack; transfers = transfers }))
    (counted bounds.run (offset_now state.stage) target (transfers_of state.stage)) (record { state = state; outcome = Cut Loops }))

-- ---- a call and a return

-- A method begins with these arguments, and `rest` is left on the caller's stack; one frame more than the bound is past depth.
unfoldable pub entered : World → Bounds → State → MethodId → List SymValue → List SymValue → Take
entered world bounds state method arguments rest =
    if nat_lt (suc (length (callers_of state.stage))) bounds.run.depth
    then record { state = carried_on (called world method arguments rest state); outcome = OutcomeGoes }
    else record { state = state; outcome = Cut Depth }

-- a result on a stack: none of void
abbrev pub with_result : Option SymValue → List SymValue → List SymValue
with_result None stack = stack
with_result (Some value) stack = value ∷ stack

-- the nearest caller goes on behind its invoke
abbrev pub resumes : World → Option SymValue → SymFrame → SymFrame
resumes world value caller = record caller { at = behind world caller.method caller.at; stack = with_result value caller.stack }

abbrev pub returned_to : World → State → List SymFrame → Option SymValue → Take
returned_to world state [] value = ends state (Returned (option_map out_of value))
returned_to world state (caller ∷ more) value =
    if has_room world caller.method (length (with_result value caller.stack)) then carries_out (left 1 state) (resumes world value) else ill_typed world state

-- The method's result, or none, is handed to the nearest caller's stack, which must have room for it; that caller goes on behind
-- its invoke. Where it has no room, the return is ill-typed. With no caller the run ends.
unfoldable pub returned : World → State → Option SymValue → Take
returned world state value = returned_to world state (callers_of state.stage) value

-- ---- a throw

-- what is thrown: an object of the class, which is to be made, or one that is there, of that exact type
pub data Thrown : Type 0 where
  OfClass : List ℕ → Thrown
  There : ObjectThere → ExactType → Thrown

abbrev pub kind_thrown : Thrown → ExactType
kind_thrown (OfClass class) = exact.Class class
kind_thrown (There object kind) = kind

-- the value that it is, and the state that has it
abbrev pub value_thrown : State → Thrown → SymValue
value_thrown state (OfClass class) = New (length state.made)
value_thrown state (There object kind) = object_value object

abbrev pub with_thrown : World → State → Thrown → State
with_thrown world state (OfClass class) = with_made world state class
with_thrown world state (There object kind) = state

-- where a frame stands: a caller at its invoke
abbrev pub stands_at : SymFrame → Standpoint
stands_at frame = (frame.method, frame.at)

-- so many frames are left, and the next one goes on at the target, with nothing but the object on its stack
abbrev pub caught : World → State → Thrown → ℕ → ℕ → ℕ → Take
caught world state it count target transfers =
    carries_out (landed count (value_thrown state it) transfers (with_thrown world state it)) (λ (frame : SymFrame). record frame { at = target })

-- The frame that is told, before which so many are left, takes it at the target: it must have room for it, which comes before the
-- bound. Nothing is made where it does not go on there.
abbrev pub lands_in : World → Bounds → State → Thrown → ℕ → ℕ → FrameAt → Take
lands_in world bounds state it count target frame =
    if has_room world frame.method 1
    then option_map_or (caught world state it count target) (counted bounds.run frame.at target frame.transfers) (record { state = state; outcome = Cut Loops })
    else ill_typed world state

-- the first of these frames takes it
abbrev pub lands : World → Bounds → State → Thrown → ℕ → ℕ → List SymFrame → Take
lands world bounds state it count target [] = ill_typed world state
lands world bounds state it count target (frame ∷ callers) = lands_in world bounds state it count target (frame_told frame)

-- with no handler it ends the run
abbrev pub uncaught : World → State → Thrown → Take
uncaught world state it = ends (with_thrown world state it) (Threw (out_of (value_thrown state it)))

-- A thrown object goes to the nearest handler, on the way from the current frame to its callers, or ends the run.
unfoldable pub thrown : World → Bounds → State → Thrown → Take
thrown world bounds state it =
    option_map_or (λ (found : ℕ × ℕ). lands world bounds state it found.0 found.1 (drop found.0 (frames_of state.stage)))
    (nearest_handler world (kind_thrown it) (map stands_at (frames_of state.stage))) (uncaught world state it)

-- ---- all of them

-- What a way leads to from a state, where `next` is the offset behind the instruction.
abbrev pub went : World → Bounds → ℕ → State → Way → Take
went world bounds next state (Goes locals stack) = goes_on world next state locals stack
went world bounds next state (Jumps target stack) = jumps world bounds state target stack
went world bounds next state (Enters method arguments rest) = entered world bounds state method arguments rest
went world bounds next state (Leaves value) = returned world state value
went world bounds next state (Throws class) = thrown world bounds state (OfClass class)
went world bounds next state (ThrowsThere object kind) = thrown world bounds state (There object kind)
went world bounds next state Fails = ill_typed world state

-- ---- parts

-- with the same locals
abbrev pub with_stack : State → List SymValue → Way
with_stack state stack = Goes (locals_of state.stage) stack
