-- A way that leads on with values of the state leaves a state of values: one lemma for each way.
use Rattle.std.proofs.Common.{◌≡◌, ℕ, ◌≤◌, List, [], length, Option, refl, subst}
use Rattle.kb_classes.specs.World.{World}
use Rattle.kb_semantics.specs.Config.{max_locals_of, has_room}
use Rattle.kb_picture.specs.declared.choice.Choice.{Choice}
use Rattle.kb_frames.specs.declared.value.SymValue.{SymValue}
use Rattle.kb_frames.specs.Next.{method_now, offset_now}
use Rattle.kb_frames.specs.State.{State}
use Rattle.kb_frames.specs.States.{Each, IsLocal, IsSymValue}
use Rattle.kb_ways.specs.Ways.{Way, Goes, Jumps, Enters, Leaves, There, Throws, ThrowsThere, Fails, OfClass, Take, carries_out, ill_typed, object_value, went}
use Rattle.kb_ways.proofs.GrowLaws.{if_has, option_has}
use Rattle.kb_heap.specs.declared.bounds.Bound.TheVariants.{Loops}
use Rattle.kb_heap.specs.declared.bounds.Bounds.{Bounds}
use Rattle.kb_semantics.specs.Ways.{counted}
use Rattle.kb_frames.specs.declared.frame.SymFrame.{SymFrame}
use Rattle.kb_frames.specs.declared.state.Stage.{Stage}
use Rattle.kb_frames.specs.declared.state.Stage.TheVariants.{Begins, Runs}
use Rattle.kb_frames.specs.declared.value.Outcome.TheVariants.{Cut}
use Rattle.kb_frames.specs.Lent.{begun, begun_locals, begun_stage, transfers_of}
use Rattle.kb_ways.proofs.SoundLaws.{Sound, carried_sound, entered_sound, frame_sound, returned_sound, thrown_sound}

-- ---- ways

-- A frame may go on with these locals and this stack.
pub record CanGo (world : World) (state : State) (locals : List (Option SymValue)) (stack : List SymValue) : Type 0 where
  pub room : max_locals_of world (method_now state.method state.stage) ≤ length locals
  pub each_local : Each (IsLocal world state) locals
  pub each_value : Each (IsSymValue world state) stack

abbrev pub IsGood : World → State → Way → Type 0
IsGood world state (Goes locals stack) = CanGo world state locals stack
IsGood world state (Jumps target stack) = Each (IsSymValue world state) stack
IsGood world state (Enters method arguments rest) = Each (IsSymValue world state) arguments × Each (IsSymValue world state) rest
IsGood world state (Leaves value) = IsLocal world state value
IsGood world state (Throws class) = Unit {0}
IsGood world state (ThrowsThere object kind) = IsSymValue world state (object_value object)
IsGood world state Fails = Unit {0}

-- ---- ways

module _ (world : World) (bounds : Bounds) (next : ℕ) (state : State) (frame : SymFrame) (callers : List SymFrame) (running : state.stage ≡ Runs frame callers) (sound : Sound world state) where
  abbrev SoundTo : Take → Type 0
  SoundTo take = Sound world take.state

  pub went_sound : (way : Way) → IsGood world state way → SoundTo (went world bounds next state way)
  went_sound (Goes locals stack) good =
      if_has SoundTo (has_room world (method_now state.method state.stage) (length stack)) _ (ill_typed world state)
      (carried_sound world state frame callers running sound (λ (f : SymFrame). record f { at = next; locals = locals; stack = stack })
      (record { room = subst (λ (stage : Stage). max_locals_of world (method_now state.method stage) ≤ length locals) running good.room; locals = good.each_local; stack = good.each_value }))
      sound
  went_sound (Jumps target stack) good =
      if_has SoundTo (has_room world (method_now state.method state.stage) (length stack)) _ (ill_typed world state)
      (option_has SoundTo (counted bounds.run (offset_now state.stage) target (transfers_of state.stage))
      (λ transfers. carries_out state (λ (f : SymFrame). record f { at = target; stack = stack; transfers = transfers })) (record { state = state; outcome = Cut Loops })
      (λ transfers. carried_sound world state frame callers running sound (λ (f : SymFrame). record f { at = target; stack = stack; transfers = transfers })
      (record { room = (frame_sound world state frame callers running sound).0.room; locals = (frame_sound world state frame callers running sound).0.locals; stack = good })) sound)
      sound
  went_sound (Enters method arguments rest) good = entered_sound world state frame callers running sound bounds method arguments rest good.0 good.1
  went_sound (Leaves value) good = returned_sound world state frame callers running sound value good
  went_sound (Throws class) good = thrown_sound world bounds state frame callers running sound (OfClass class) tt
  went_sound (ThrowsThere object kind) good = thrown_sound world bounds state frame callers running sound (There object kind) good
  went_sound Fails good = sound

-- ---- takes

module _ (world : World) (bounds : Bounds) (choice : Choice) where
  -- the first frame is there once the arguments are read
  pub running_now : (state : State) → (frame : SymFrame) × (callers : List SymFrame) × ((begun world state).stage ≡ Runs frame callers)
  running_now state = go state.stage where
    go : (stage : Stage) → (frame : SymFrame) × (callers : List SymFrame) × (begun_stage world state stage ≡ Runs frame callers)
    go (Begins read) = (record { method = state.method; at = 0; locals = begun_locals read (max_locals_of world state.method); stack = []; transfers = 0 }, [], refl)
    go (Runs frame callers) = (frame, callers, refl)
