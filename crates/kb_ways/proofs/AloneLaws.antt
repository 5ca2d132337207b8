-- Where nothing was called, a way that enters no method leaves it so.
use Rattle.std.proofs.Common.{◌≡◌, ℕ, zero, suc, List, [], ◌∷◌, drop, length, refl, sym, subst, ◌∙◌}
use Rattle.kb_class.specs.declared.ids.MethodId.{MethodId}
use Rattle.kb_classes.specs.World.{World}
use Rattle.kb_heap.specs.declared.bounds.Bounds.{Bounds}
use Rattle.kb_semantics.specs.Config.{has_room}
use Rattle.kb_semantics.specs.Ways.{counted}
use Rattle.kb_frames.specs.declared.frame.SymFrame.{SymFrame}
use Rattle.kb_frames.specs.declared.state.Stage.{Stage}
use Rattle.kb_frames.specs.declared.state.Stage.TheVariants.{Begins, Runs}
use Rattle.kb_frames.specs.declared.value.SymValue.{SymValue}
use Rattle.kb_frames.specs.declared.value.SymValue.TheVariants.{New}
use Rattle.kb_frames.specs.Calls.{frames_of, left_stage}
use Rattle.kb_frames.specs.Lent.{begun_stage, callers_of, transfers_of, with_frame}
use Rattle.kb_frames.specs.Next.{method_now, offset_now}
use Rattle.kb_frames.specs.State.{State}
use Rattle.kb_ways.specs.Reached.{IsAlone}
use Rattle.kb_ways.specs.Ways.{Take, There, Thrown, OfClass, Way, Goes, Jumps, Enters, Leaves, Throws, ThrowsThere, Fails, carries_out, object_value, thrown, went}
use Rattle.kb_ways.proofs.CallLaws.{returned_has, thrown_has}
use Rattle.kb_ways.proofs.GrowLaws.{if_has, option_has}

-- the way enters no method
abbrev pub EntersNone : Way → Type 0
EntersNone (Goes locals stack) = Unit {0}
EntersNone (Jumps target stack) = Unit {0}
EntersNone (Enters method arguments rest) = ⊥
EntersNone (Leaves value) = Unit {0}
EntersNone (Throws class) = Unit {0}
EntersNone (ThrowsThere object kind) = Unit {0}
EntersNone Fails = Unit {0}

-- the first frame is the method's
pub begun_alone : (world : World) (state : State) (stage : Stage) → IsAlone state.method stage → IsAlone state.method (begun_stage world state stage)
begun_alone world state (Begins read) alone = (refl, refl)
begun_alone world state (Runs frame callers) alone = alone

none_called : (method : MethodId) (stage : Stage) (caller : SymFrame) (more : List SymFrame) → IsAlone method stage → callers_of stage ≡ caller ∷ more → ⊥
none_called method (Begins read) caller more alone waits = absurd cc
none_called method (Runs frame callers) caller more alone waits = absurd (apart (sym alone.1 ∙ waits)) where
  apart : [] ≡ caller ∷ more → ⊥
  apart e = cc

module _ (world : World) (bounds : Bounds) (next : ℕ) (state : State) (alone : IsAlone state.method state.stage) where
  abbrev pub AloneTo : Take → Type 0
  AloneTo take = IsAlone take.state.method take.state.stage

  carries_alone : (f : SymFrame → SymFrame) → ((frame : SymFrame) → (f frame).method ≡ frame.method) → AloneTo (carries_out state f)
  carries_alone f same = go state.stage alone where
    go : (stage : Stage) → IsAlone state.method stage → IsAlone state.method (with_frame f stage)
    go (Begins read) alone = tt
    go (Runs frame callers) alone = (same frame ∙ alone.0, alone.1)

  -- a frame that takes an exception is the only one
  landed_alone : (count target transfers : ℕ) (value : SymValue) (current : SymFrame) (others : List SymFrame) → drop count (frames_of state.stage) ≡ current ∷ others
      → IsAlone state.method (with_frame (λ (f : SymFrame). record f { at = target }) (with_frame (λ (f : SymFrame). record f { stack = value ∷ []; transfers = transfers }) (left_stage count state.stage)))
  landed_alone count target transfers value current others is = go state.stage alone is where
    none_left : (k : ℕ) → drop k [] ≡ current ∷ others → ⊥
    none_left zero e = cc
    none_left (suc k) e = cc

    go : (stage : Stage) → IsAlone state.method stage → drop count (frames_of stage) ≡ current ∷ others
        → IsAlone state.method (with_frame (λ (f : SymFrame). record f { at = target }) (with_frame (λ (f : SymFrame). record f { stack = value ∷ []; transfers = transfers }) (left_stage count stage)))
    go (Begins read) alone is = tt
    go (Runs frame callers) alone is = by_count count is where
      by_count : (n : ℕ) → drop n (frame ∷ callers) ≡ current ∷ others
          → IsAlone state.method (with_frame (λ (f : SymFrame). record f { at = target }) (with_frame (λ (f : SymFrame). record f { stack = value ∷ []; transfers = transfers }) (left_stage n (Runs frame callers))))
      by_count zero is = alone
      by_count (suc k) is = absurd (none_left k (subst (λ (cs : List SymFrame). drop k cs ≡ current ∷ others) alone.1 is))

  thrown_alone : (it : Thrown) → AloneTo (thrown world bounds state it)
  thrown_alone (OfClass class) = thrown_has AloneTo world bounds state (OfClass class) alone (λ count target n current others is. landed_alone count target n (New (length state.made)) current others is) alone alone
  thrown_alone (There object kind) = thrown_has AloneTo world bounds state (There object kind) alone (λ count target n current others is. landed_alone count target n (object_value object) current others is) alone alone

  pub went_alone : (way : Way) → EntersNone way → AloneTo (went world bounds next state way)
  went_alone (Goes locals stack) none =
      if_has AloneTo (has_room world (method_now state.method state.stage) (length stack)) _ _
      (carries_alone (λ (frame : SymFrame). record frame { at = next; locals = locals; stack = stack }) (λ frame. refl)) alone
  went_alone (Jumps target stack) none =
      if_has AloneTo (has_room world (method_now state.method state.stage) (length stack)) _ _
      (option_has AloneTo (counted bounds.run (offset_now state.stage) target (transfers_of state.stage)) _ _
      (λ n. carries_alone (λ (frame : SymFrame). record frame { at = target; stack = stack; transfers = n }) (λ frame. refl)) alone) alone
  went_alone (Enters method arguments rest) none = absurd none
  went_alone (Leaves value) none =
      returned_has AloneTo world state value alone (λ caller more waits. absurd (none_called state.method state.stage caller more alone waits)) alone
  went_alone (Throws class) none = thrown_alone (OfClass class)
  went_alone (ThrowsThere object kind) none = thrown_alone (There object kind)
  went_alone Fails none = alone
