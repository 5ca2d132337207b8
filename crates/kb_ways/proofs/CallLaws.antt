-- What each end of a call, of a return and of a throw has, the whole has.
use Rattle.std.proofs.Common.{◌≡◌, ℕ, suc, List, [], ◌∷◌, drop, length, map, nat_lt, Option, Some, None, refl}
use Rattle.std.specs.Option.{option_map, option_map_or}
use Rattle.kb_class.specs.declared.ids.MethodId.{MethodId}
use Rattle.kb_classes.specs.World.{World}
use Rattle.kb_heap.specs.declared.bounds.Bound.TheVariants.{Depth, Loops}
use Rattle.kb_heap.specs.declared.bounds.Bounds.{Bounds}
use Rattle.kb_picture.specs.declared.path.SymEnding.TheVariants.{Returned}
use Rattle.kb_semantics.specs.Config.{has_room}
use Rattle.kb_semantics.specs.Ways.{counted, nearest_handler}
use Rattle.kb_frames.specs.declared.frame.SymFrame.{SymFrame}
use Rattle.kb_frames.specs.declared.value.Outcome.TheVariants.{Goes as OutcomeGoes, Cut}
use Rattle.kb_frames.specs.declared.value.SymValue.{SymValue}
use Rattle.kb_frames.specs.Calls.{called, frames_of, left}
use Rattle.kb_frames.specs.Lent.{callers_of, carried_on}
use Rattle.kb_frames.specs.StandsFor.{out_of}
use Rattle.kb_frames.specs.State.{State}
use Rattle.kb_ways.specs.Ways.{Take, Thrown, carries_out, caught, ends, entered, ill_typed, kind_thrown, lands, resumes, returned, returned_to, stands_at, thrown, uncaught, with_result}
use Rattle.kb_ways.proofs.GrowLaws.{if_has, option_has}

pub entered_has : (P : Take → Type 0) (world : World) (bounds : Bounds) (state : State) (method : MethodId) (arguments rest : List SymValue)
    → P (record { state = carried_on (called world method arguments rest state); outcome = OutcomeGoes }) → P (record { state = state; outcome = Cut Depth })
    → P (entered world bounds state method arguments rest)
unfolding entered
entered_has P world bounds state method arguments rest begins past = if_has P (nat_lt (suc (length (callers_of state.stage))) bounds.run.depth) _ _ begins past

-- `waits` is the nearest caller, where there is one
pub returned_has : (P : Take → Type 0) (world : World) (state : State) (value : Option SymValue)
    → P (ends state (Returned (option_map out_of value)))
    → ((caller : SymFrame) (more : List SymFrame) → callers_of state.stage ≡ caller ∷ more → P (carries_out (left 1 state) (resumes world value)))
    → P (ill_typed world state) → P (returned world state value)
unfolding returned
returned_has P world state value ended on ill = go (callers_of state.stage) refl where
  go : (callers : List SymFrame) → callers_of state.stage ≡ callers → P (returned_to world state callers value)
  go [] waits = ended
  go (caller ∷ more) waits = if_has P (has_room world caller.method (length (with_result value caller.stack))) _ _ (on caller more waits) ill

-- `is` says which frame takes it, behind those that are left
pub thrown_has : (P : Take → Type 0) (world : World) (bounds : Bounds) (state : State) (it : Thrown)
    → P (uncaught world state it)
    → ((count target transfers : ℕ) (frame : SymFrame) (callers : List SymFrame) → drop count (frames_of state.stage) ≡ frame ∷ callers → P (caught world state it count target transfers))
    → P (record { state = state; outcome = Cut Loops }) → P (ill_typed world state) → P (thrown world bounds state it)
unfolding thrown
thrown_has P world bounds state it ended on past ill = go (nearest_handler world (kind_thrown it) (map stands_at (frames_of state.stage))) where
  landing : (count target : ℕ) (frames : List SymFrame) → drop count (frames_of state.stage) ≡ frames → P (lands world bounds state it count target frames)
  landing count target [] is = ill
  landing count target (frame ∷ callers) is =
      if_has P (has_room world frame.method 1) _ _
      (option_has P (counted bounds.run frame.at target frame.transfers) (caught world state it count target) (record { state = state; outcome = Cut Loops }) (λ n. on count target n frame callers is) past) ill

  go : (found : Option (ℕ × ℕ)) → P (option_map_or (λ (found : ℕ × ℕ). lands world bounds state it found.0 found.1 (drop found.0 (frames_of state.stage))) found (uncaught world state it))
  go None = ended
  go (Some found) = landing found.0 found.1 (drop found.0 (frames_of state.stage)) refl
