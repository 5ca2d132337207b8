-- What a turn holds stays what the current frame stands at, as long as the instruction only makes terms and writes the heap; and
-- what comes of a state by the instruction that it takes up, or where it takes up none.
use Rattle.std.proofs.Common.{◌≡◌, ℕ, ◌<◌, Bool, true, false, List, nat_le, is_some, ◌||◌, Option, Some, None, refl, sym, ap, subst, ◌∙◌, if◌then◌else◌}
use Rattle.std.specs.Option.{option_map_or}
use Rattle.std.proofs.lemmas.Bool.{leb-false}
use Rattle.std.proofs.lemmas.Option.{none-some}
use Rattle.kb_class.specs.declared.ids.MethodId.{MethodId}
use Rattle.kb_code.specs.declared.instruction.Instr.{Instr}
use Rattle.kb_heap.specs.declared.bounds.Bound.TheVariants.{Steps}
use Rattle.kb_heap.specs.declared.bounds.Bounds.{Bounds}
use Rattle.kb_classes.specs.World.{World}
use Rattle.kb_names.specs.declared.types.JType.{JType}
use Rattle.kb_semantics.specs.Config.{code_of, instruction_at}
use Rattle.kb_picture.specs.declared.choice.Choice.{Choice}
use Rattle.kb_frames.specs.declared.state.Stage.{Stage}
use Rattle.kb_frames.specs.declared.state.Stage.TheVariants.{Begins, Runs}
use Rattle.kb_frames.specs.declared.value.Outcome.TheVariants.{Cut}
use Rattle.kb_frames.specs.declared.value.SymValue.{SymValue}
use Rattle.kb_frames.specs.Lent.{begun, begun_stage}
use Rattle.kb_frames.specs.Next.{argument_next, method_now, offset_now}
use Rattle.kb_frames.specs.State.{State}
use Rattle.kb_ways.specs.declared.condition.Condition.{Condition}
use Rattle.kb_ways.specs.declared.turn.Turn.{Turn}
use Rattle.kb_ways.specs.Asked.{all_asked}
use Rattle.kb_ways.specs.Kept.{kept, kept_in}
use Rattle.kb_ways.specs.Needs.{IsFor, IsTurnAt}
use Rattle.kb_ways.specs.Plans.{Plan, carried_out, followed, taken_up, takes_next, takes_none, takes_up}
use Rattle.kb_ways.specs.Turns.{found_of, led_by}
use Rattle.kb_ways.specs.Ways.{ill_typed}
use Rattle.kb_ways.proofs.BegunLaws.{place_same}
use Rattle.kb_ways.proofs.GrowLaws.{Grows, HasMore, all_asked_grows}
use Rattle.kb_ways.proofs.KeptLaws.{kept_is_in, kept_more}

-- ---- a turn stays that of its instruction

-- also in a state of which only the heap, terms and conditions are others
pub is_for_same : (turn : Turn) (old new : State) → new.method ≡ old.method → new.stage ≡ old.stage → new.carried ≡ old.carried → IsFor turn old → IsFor turn new
is_for_same turn old new method stage carried h =
    let same : method_now new.method new.stage ≡ method_now old.method old.stage = ap (λ (id : MethodId). method_now id new.stage) method ∙ ap (method_now old.method) stage in
    record {
      within = subst (λ (n : ℕ). n < turn.bounds.run.steps) (sym carried) h.within;
      method = h.method ∙ sym same;
      at = h.at ∙ sym (ap offset_now stage);
      code = subst (λ (id : MethodId). code_of turn.world.now id ≡ Some turn.code.now) (sym same) h.code;
    }

pub asked_is_for : (turn : Turn) (state : State) (cs : List Condition) → IsFor turn state → IsFor turn (all_asked state cs)
asked_is_for turn state cs h =
    let grows : Grows state (all_asked state cs) = all_asked_grows cs state in
    is_for_same turn state (all_asked state cs) (ap (λ (s : State). s.method) grows.rest) (ap (λ (s : State). s.stage) grows.rest) (ap (λ (s : State). s.carried) grows.rest) h

pub more_is_for : (turn : Turn) (old new : State) → HasMore old new → IsFor turn old → IsFor turn new
more_is_for turn old new more h =
    is_for_same turn old new (ap (λ (s : State). s.method) more.rest) (ap (λ (s : State). s.stage) more.rest) (ap (λ (s : State). s.carried) more.rest) h

pub kept_is_for : (turn : Turn) (type : JType) (value : SymValue) (state : State) (it : State × SymValue) → kept type value state ≡ Some it → IsFor turn state → IsFor turn it.0
kept_is_for turn type value state it e h =
    subst (λ (k : State × SymValue). IsFor turn k.0) (kept_is_in type value state it e) (more_is_for turn state (kept_in type value state).0 (kept_more type value state) h)

-- and of the frame with which the run begins
pub begun_is_for : (world : World) (turn : Turn) (state : State) → IsFor turn state → IsFor turn (begun world state)
begun_is_for world turn state h = go state.stage h.method h.at h.code where
  go : (stage : Stage) → turn.method ≡ method_now state.method stage → turn.at ≡ offset_now stage → code_of turn.world.now (method_now state.method stage) ≡ Some turn.code.now
      → IsFor turn (record state { stage = begun_stage world state stage })
  go (Begins read) method at code = record { within = h.within; method = method; at = at; code = code }
  go (Runs frame callers) method at code = record { within = h.within; method = method; at = at; code = code }

-- ---- the instruction that is taken up

abbrev pub at_frame : World → State → Option (Instr × ℕ)
at_frame world state = instruction_at world (method_now state.method state.stage) (offset_now state.stage)

-- all arguments are read, and the bound on steps is not spent
pub record IsTakenUp (world : World) (bounds : Bounds) (state : State) (found : Instr × ℕ) : Type 0 where
  pub read : argument_next world state.method state.stage ≡ None
  pub left : nat_le bounds.run.steps state.carried ≡ false
  pub here : instruction_at world (method_now state.method state.stage) (offset_now state.stage) ≡ Some found

pub is_taken_up : (world : World) (bounds : Bounds) (state : State) (found : Instr × ℕ) → taken_up world bounds state ≡ Some found → IsTakenUp world bounds state found
is_taken_up world bounds state found is = go (argument_next world state.method state.stage) refl (nat_le bounds.run.steps state.carried) refl is where
  go : (it : Option JType) → argument_next world state.method state.stage ≡ it → (spent : Bool) → nat_le bounds.run.steps state.carried ≡ spent
      → (if is_some it || spent then None else at_frame world state) ≡ Some found → IsTakenUp world bounds state found
  go (Some type) read spent less e = absurd (none-some found e)
  go None read true less e = absurd (none-some found e)
  go None read false less e = record { read = read; left = less; here = e }

-- its turn is that of the state
pub is_for : (world : World) (bounds : Bounds) (state : State) (turn : Turn) → IsTurnAt world bounds state turn → Some (found_of turn) ≡ taken_up world bounds state → IsFor turn state
is_for world bounds state turn at is = record {
  within = subst (λ (b : Bounds). state.carried < b.run.steps) (sym at.bounds_are) (leb-false bounds.run.steps state.carried (is_taken_up world bounds state (found_of turn) (sym is)).left);
  method = at.method;
  at = at.at;
  code = subst (λ (w : World). code_of w (method_now state.method state.stage) ≡ Some turn.code.now) (sym at.world_is) at.code;
}

module _ (plan_of : Plan) (world : World) (bounds : Bounds) (choice : Choice) (state : State) where
  -- where the plan of the instruction leads, the take leads
  pub taken_by : (turn : Turn) → IsTurnAt world bounds state turn → Some (found_of turn) ≡ taken_up world bounds state
      → led_by turn (plan_of turn.world.now (begun turn.world.now state) choice turn.instr.now) ≡ takes_next plan_of world bounds choice state
  taken_by turn at is =
      let up = is_taken_up world bounds state (found_of turn) (sym is) in
      ap (λ (w : World). followed w turn.bounds turn.next (plan_of w (begun w state) choice turn.instr.now)) at.world_is
      ∙ ap (λ (b : Bounds). followed world b turn.next (plan_of world (begun world state) choice turn.instr.now)) at.bounds_are
      ∙ ap (λ (found : Option (Instr × ℕ)). option_map_or (carried_out plan_of world bounds choice (begun world state)) found (ill_typed world (begun world state)))
      (sym (place_same world state state.stage ∙ up.here))
      ∙ ap (λ (spent : Bool). if spent then record { state = state; outcome = Cut Steps } else takes_up plan_of world bounds choice (begun world state)) (sym up.left)

  -- an answer leaves the frame in which the run stands: the same of the state that was told
  pub taken_behind : (turn : Turn) (told : State) → told.method ≡ state.method → told.stage ≡ state.stage → IsTurnAt world bounds state turn → Some (found_of turn) ≡ taken_up world bounds state
      → led_by turn (plan_of turn.world.now told choice turn.instr.now) ≡ takes_up plan_of world bounds choice told
  taken_behind turn told method stage at is =
      let up = is_taken_up world bounds state (found_of turn) (sym is) in
      ap (λ (w : World). followed w turn.bounds turn.next (plan_of w told choice turn.instr.now)) at.world_is
      ∙ ap (λ (b : Bounds). followed world b turn.next (plan_of world told choice turn.instr.now)) at.bounds_are
      ∙ ap (λ (found : Option (Instr × ℕ)). option_map_or (carried_out plan_of world bounds choice told) found (ill_typed world told))
      (sym (ap (λ (id : MethodId). instruction_at world (method_now id told.stage) (offset_now told.stage)) method
      ∙ (ap (λ (s : Stage). instruction_at world (method_now state.method s) (offset_now s)) stage ∙ up.here)))

  -- and where no instruction is taken up
  pub taken_none : argument_next world state.method state.stage ≡ None → taken_up world bounds state ≡ None → takes_next plan_of world bounds choice state ≡ takes_none world bounds state
  taken_none read none = go (nat_le bounds.run.steps state.carried) (ap (λ (it : Option JType). if is_some it || nat_le bounds.run.steps state.carried then None else at_frame world state) (sym read) ∙ none) where
    go : (spent : Bool) → (if spent then None else at_frame world state) ≡ None
        → (if spent then record { state = state; outcome = Cut Steps } else takes_up plan_of world bounds choice (begun world state))
        ≡ (if spent then record { state = state; outcome = Cut Steps } else ill_typed world (begun world state))
    go true e = refl
    go false e =
        ap (λ (found : Option (Instr × ℕ)). option_map_or (carried_out plan_of world bounds choice (begun world state)) found (ill_typed world (begun world state)))
        (place_same world state state.stage ∙ e)
