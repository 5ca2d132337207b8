-- What the steps of states over heaps need of them, and that steps on references leave such states.
use Rattle.std.proofs.Common.{◌≡◌, ℕ, Bool, true, false, not, ◌&&◌, Option, Some, None, refl, sym, ap, ◌∙◌, subst, true≢false}
use Rattle.std.specs.Option.{option_map, option_map_or}
use Rattle.std.proofs.lemmas.Bool.{and_parts}
use Rattle.kb_class.specs.declared.ids.MethodId.{MethodId}
use Rattle.kb_class.specs.Naming.{Has}
use Rattle.kb_code.specs.declared.instruction.Instr.{Instr}
use Rattle.kb_heap.specs.declared.bounds.Bounds.{Bounds}
use Rattle.kb_classes.specs.World.{World}
use Rattle.kb_semantics.specs.Config.{instruction_at}
use Rattle.kb_lazy.specs.Laws.{AreInRange}
use Rattle.kb_terms.specs.Terms.{IsPool}
use Rattle.kb_picture.specs.declared.choice.Choice.{Choice}
use Rattle.kb_frames.specs.declared.state.Stage.{Stage}
use Rattle.kb_frames.specs.declared.state.Stage.TheVariants.{Begins, Runs}
use Rattle.kb_frames.specs.declared.value.Outcome.{Outcome}
use Rattle.kb_frames.specs.declared.value.Outcome.TheVariants.{Asks, Goes, Ends, Cut}
use Rattle.kb_frames.specs.Next.{method_now, next_is_int, offset_now}
use Rattle.kb_frames.specs.State.{State}
use Rattle.kb_ways.specs.Built.{IsBuiltNext, is_built_instruction}
use Rattle.kb_ways.specs.Reached.{IsAlone}
use Rattle.kb_drive.proofs.AloneTakes.{references_alone}
use Rattle.kb_ways.specs.Simulation.{Keeps}
use Rattle.kb_ways.proofs.SoundLaws.{reached_sound}
use Rattle.kb_stepint.specs.Laws.{IsAtInts}
use Rattle.kb_stepref.specs.Choices.{choices_of}
use Rattle.kb_stepref.specs.Laws.{IsAtReferences}
use Rattle.kb_stepref.specs.Takes.{taken}
use Rattle.kb_stepref.proofs.KeepLaws.{kept}
use Rattle.kb_stepref.proofs.ReachedLaws.{IsKnown, IsKnownUnlessCut, goes_on_known}
use Rattle.kb_drive.specs.HeapMethods.{is_heap_method, is_left_to_steps, loads_no_int}
use Rattle.kb_drive.specs.Reached.{GoesOnReached, IsHeapReached}
use Rattle.kb_drive.proofs.HeapMethodLaws.{instruction_is_heap}
use Rattle.kb_drive.proofs.HeapPlans.{CallsNothing}

-- ---- what is next

-- no method is called, so the instruction is one of the method itself
method_is_own : (method : MethodId) (stage : Stage) → IsAlone method stage → method_now method stage ≡ method
method_is_own method (Begins read) alone = refl
method_is_own method (Runs frame callers) alone = alone.0

-- the next instruction is one that is built
pub built_next : (world : World) (state : State) → IsHeapReached world state → IsBuiltNext world state
built_next world state h = go (instruction_at world (method_now state.method state.stage) (offset_now state.stage)) refl where
  own : method_now state.method state.stage ≡ state.method
  own = method_is_own state.method state.stage h.alone

  go : (it : Option (Instr × ℕ)) → instruction_at world (method_now state.method state.stage) (offset_now state.stage) ≡ it
      → option_map_or (is_built_instruction world (method_now state.method state.stage)) (option_map (λ (f : Instr × ℕ). f.0) it) true ≡ true
  go None e = refl
  go (Some found) e =
      subst (λ (m : MethodId). is_built_instruction world m found.0 ≡ true) (sym own)
      (and_parts (not (loads_no_int world state.method found.0)) (is_built_instruction world state.method found.0)
      (and_parts (not (is_left_to_steps found.0)) (not (loads_no_int world state.method found.0) && is_built_instruction world state.method found.0)
      (instruction_is_heap world state.method (offset_now state.stage) found h.method (ap (λ (m : MethodId). instruction_at world m (offset_now state.stage)) (sym own) ∙ e))).1).1

-- and calls nothing
pub calls_nothing : (world : World) (state : State) → IsHeapReached world state → CallsNothing world state
calls_nothing world state h found e =
    let own : method_now state.method state.stage ≡ state.method = method_is_own state.method state.stage h.alone in
    none (is_left_to_steps found.0)
    (and_parts (not (is_left_to_steps found.0)) (not (loads_no_int world state.method found.0) && is_built_instruction world state.method found.0)
    (instruction_is_heap world state.method (offset_now state.stage) found h.method (ap (λ (m : MethodId). instruction_at world m (offset_now state.stage)) (sym own) ∙ e))).0
  where
    none : (b : Bool) → not b ≡ true → b ≡ false
    none true is = absurd (true≢false (sym is))
    none false is = refl

pub at_ints : (world : World) (state : State) → IsHeapReached world state → next_is_int world state ≡ true → IsAtInts world state
at_ints world state h ints = record { reached = h.reached; next = ints }

pub at_references : (world : World) (state : State) → IsHeapReached world state → next_is_int world state ≡ false → IsAtReferences world state
at_references world state h next = record {
  reached = h.reached;
  linked = h.linked;
  lazy = h.lazy;
  known = h.known;
  within = h.within;
  bounded = h.bounded;
  built = built_next world state h;
  next = next;
}

-- ---- where a step on references goes on

pub goes_on_reached : (world : World) (bounds : Bounds) (state : State) (choice : Choice) → AreInRange bounds → IsHeapReached world state → next_is_int world state ≡ false
    → Has (choices_of world state bounds) choice → IsPool (taken world bounds state choice).state.nodes
    → GoesOnReached world (taken world bounds state choice).state (taken world bounds state choice).outcome
goes_on_reached world bounds state choice range h next has pool =
    go (taken world bounds state choice).outcome (goes_on_known world bounds state choice range (at_references world state h next) has)
  where
    after : State
    after = (taken world bounds state choice).state

    keeps : Keeps state after
    keeps = kept world bounds state choice (at_references world state h next)

    alone : IsAlone after.method after.stage
    alone = references_alone world bounds state choice (at_references world state h next) (calls_nothing world state h) h.alone

    known : IsKnown world after → IsHeapReached world after
    known is = record {
      reached = reached_sound world after is.sound pool;
      alone = alone;
      linked = h.linked;
      method = subst (λ (m : MethodId). is_heap_method world m ≡ true) (sym keeps.method) h.method;
      lazy = is.lazy;
      known = is.known;
      within = is.within;
      bounded = is.bounded;
    }

    go : (outcome : Outcome) → IsKnownUnlessCut world after outcome → GoesOnReached world after outcome
    go Asks is = known is
    go Goes is = known is
    go (Ends ending) is = known is
    go (Cut bound) is = tt
