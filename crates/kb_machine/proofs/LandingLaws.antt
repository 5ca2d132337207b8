-- How a thrown object goes through the frames, one after the other.
use Rattle.std.proofs.Common.{◌≡◌, ℕ, suc, List, [], ◌∷◌, drop, map, length, true, if◌then◌else◌, Option, Some, None, Result, Ok, Err, IfOk, OnOk, refl, sym, ◌∙◌}
use Rattle.std.specs.Option.{option_map, option_map_or}
use Rattle.kb_names.specs.declared.types.ExactType.{ExactType}
use Rattle.kb_heap.specs.declared.ending.Ending.TheVariants.{Threw}
use Rattle.kb_heap.specs.declared.heap.Heap.{Heap}
use Rattle.kb_heap.specs.declared.heap.Value.TheVariants.{Ref}
use Rattle.kb_semantics.specs.Config.{Setting, Config, Frame, Outcome, Ends}
use Rattle.kb_heap.specs.declared.heap.Object.{Object}
use Rattle.kb_heap.specs.Heap.{with_object}
use Rattle.kb_class.specs.Platform.{throwable}
use Rattle.kb_classes.specs.Subtypes.{fits}
use Rattle.kb_names.specs.declared.types.JType.TheVariants as types
use Rattle.kb_semantics.specs.Instructions.{with}
use Rattle.kb_semantics.specs.Values.{new_object}
use Rattle.kb_semantics.specs.Ways.{goes_to, handler_at, lands, nearest_handler, standpoint, throws, throws_in, throws_object, ill_typed}
use Rattle.kb_machine.specs.Landings.{landed, unwound}
use Rattle.kb_machine.specs.Turns.{config_of, setting_of, told}
use Rattle.std.specs.declared.alloc.AllocError.{AllocError as NoMemory}
use Rattle.kb_machine.specs.declared.state.State.{State}
use Rattle.kb_machine.specs.declared.turn.Step.{Step}
use Rattle.kb_machine.specs.declared.turn.Step.TheVariants as steps
use Rattle.kb_machine.specs.declared.turn.Turn.{Turn}
use Rattle.kb_machine.specs.declared.unwinding.Landing.{Landing}
use Rattle.kb_machine.specs.declared.unwinding.Landing.TheVariants as landings

module _ (s : Setting) (c : Config) (heap : Heap) (object : ℕ) (kind : ExactType) where
  -- with no frame left
  pub unwound_end : unwound s c heap object kind [] ≡ Ends (record { ending = Threw object; heap = heap })
  unfolding nearest_handler
  unwound_end = refl

  -- the nearest frame has no handler
  pub unwound_on : (frame : Frame) (callers : List Frame) → handler_at s.world frame.method frame.at kind ≡ None →
      unwound s c heap object kind (frame ∷ callers) ≡ unwound s c heap object kind callers
  unfolding nearest_handler
  unwound_on frame callers none = rw none (go (nearest_handler s.world kind (map standpoint callers))) where
    go : (found : Option (ℕ × ℕ)) →
        option_map_or (λ (f : ℕ × ℕ). lands s c heap object f.1 (drop f.0 (frame ∷ callers))) (option_map (λ (f : ℕ × ℕ). (suc f.0, f.1)) found) (Ends (record { ending = Threw object; heap = heap }))
        ≡ option_map_or (λ (f : ℕ × ℕ). lands s c heap object f.1 (drop f.0 callers)) found (Ends (record { ending = Threw object; heap = heap }))
    go None = refl
    go (Some f) = refl

  -- it has one
  pub unwound_here : (frame : Frame) (callers : List Frame) (target : ℕ) → handler_at s.world frame.method frame.at kind ≡ Some target →
      unwound s c heap object kind (frame ∷ callers) ≡ goes_to s c frame callers target (Ref object ∷ []) heap
  unfolding nearest_handler
  unwound_here frame callers target there = rw there refl

  -- so an object is thrown
  pub throws_unwound : throws_in s c heap object kind ≡ unwound s c heap object kind (c.frame ∷ c.callers)
  unfolding throws_in
  throws_unwound = refl

-- ---- the step of a throw

module _ (t : Turn) (old : State) (class : List ℕ) (object : Object) (is : object ≡ new_object t.world.now class) where
  -- what a new object that is thrown comes to
  pub thrown : (number : ℕ) (result : Landing) (frame : Frame) (callers : List Frame) → number ≡ length old.heap.objects →
      unwound (setting_of t) (config_of t old) (with_object old.heap object) number object.kind (old.frame ∷ old.callers) ≡ landed t result (config_of t old) (with_object old.heap object) number frame callers →
      throws (setting_of t) (config_of t old) class ≡ landed t result (config_of t old) (with_object old.heap object) number frame callers
  unfolding throws throws_in
  thrown number result frame callers n h =
      let same : throws (setting_of t) (config_of t old) class ≡ unwound (setting_of t) (config_of t old) (with_object old.heap object) number object.kind (old.frame ∷ old.callers) = rw (is, n) refl in
      same ∙ h

-- a frame that has come to its handler goes on there
pub caught : (t : Turn) (old new : State) (r : Result Step NoMemory) (o : Outcome) (frame : Frame) (callers : List Frame) (heap : Heap) (number : ℕ) →
    o ≡ landed t landings.Caught (config_of t old) heap number frame callers → IfOk r (λ step. step ≡ steps.Goes) →
    OnOk r (new ≡ record { frame = record frame { stack = Ref number ∷ [] }; callers = callers; heap = heap; names = tt }) →
    IfOk r (λ step. told t step new ≡ o)
caught t old new (Ok step) o frame callers heap number e goes is = rw (goes, is) (sym e)
caught t old new (Err x) o frame callers heap number e goes is = tt

-- what an object of the heap that is thrown comes to
pub thrown_there : (t : Turn) (old : State) (number : ℕ) (found : Option Object) (of : Object) (result : Landing) (frame : Frame) (callers : List Frame) → found ≡ Some of →
    fits t.world.now of.kind (types.Class throwable) ≡ true →
    unwound (setting_of t) (config_of t old) old.heap number of.kind (old.frame ∷ old.callers) ≡ landed t result (config_of t old) old.heap number frame callers →
    with (setting_of t) (config_of t old) found
    (λ (object : Object). if fits t.world.now object.kind (types.Class throwable) then throws_object (setting_of t) (config_of t old) number object.kind else ill_typed (setting_of t) (config_of t old))
    ≡ landed t result (config_of t old) old.heap number frame callers
unfolding throws_in
thrown_there t old number found of result frame callers there fit h = rw (there, fit) h
