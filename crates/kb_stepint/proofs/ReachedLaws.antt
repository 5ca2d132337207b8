-- Each take of a state that is reached leaves one that is reached, and a picture of which an input can be made.
use Rattle.std.proofs.Common.{◌≡◌, ℕ, ◌≤◌, ℤ, pos, Bool, true, false, List, [], ◌∷◌, length, map, nat_le, Option, Some, None, slice_get, refl, sym, ap, subst, ◌∙◌}
use Rattle.std.specs.Option.{option_map_or}
use Rattle.kb_blast.specs.Query.{is_comparison}
use Rattle.kb_code.specs.declared.instruction.Cond.{Cond}
use Rattle.kb_code.specs.declared.instruction.Instr.{Instr}
use Rattle.kb_code.specs.declared.instruction.IntOp.{IntOp}
use Rattle.kb_heap.specs.declared.bounds.Bound.TheVariants.{Steps}
use Rattle.kb_heap.specs.declared.bounds.Bounds.{Bounds}
use Rattle.kb_classes.specs.World.{World}
use Rattle.kb_names.specs.declared.types.JType.{JType}
use Rattle.kb_semantics.specs.Comparisons.{table_keys}
use Rattle.kb_semantics.specs.Config.{instruction_at, max_locals_of}
use Rattle.kb_semantics.specs.Looks.{if_some}
use Rattle.kb_terms.specs.declared.node.TermId.{TermId}
use Rattle.kb_terms.specs.Terms.{IsPool}
use Rattle.kb_picture.specs.declared.choice.Choice.{Choice}
use Rattle.kb_picture.specs.declared.picture.Picture.{Picture}
use Rattle.kb_picture.specs.WellTyped.{IsReceiverSeen}
use Rattle.kb_frames.specs.declared.frame.SymFrame.{SymFrame}
use Rattle.kb_frames.specs.declared.state.Stage.{Stage}
use Rattle.kb_frames.specs.declared.state.Stage.TheVariants.{Runs}
use Rattle.kb_frames.specs.declared.value.SymValue.{SymValue}
use Rattle.kb_frames.specs.declared.value.Outcome.TheVariants.{Cut}
use Rattle.kb_frames.specs.Lent.{begun, locals_of, stack_of}
use Rattle.kb_frames.specs.Next.{argument_next, method_now, offset_now}
use Rattle.kb_frames.specs.State.{State}
use Rattle.kb_frames.specs.States.{Each, IsLocal, IsSymValue}
use Rattle.kb_ways.specs.declared.condition.Condition.{Condition}
use Rattle.kb_ways.specs.declared.condition.Side.{Side}
use Rattle.kb_ways.specs.declared.condition.Side.TheVariants.{Term, Number}
use Rattle.kb_ways.specs.Asked.{all_asked, branch_condition, equal_sides}
use Rattle.kb_stepint.specs.Choices.{branch_conditions, conditions_of, division_conditions, divisor_conditions, key_conditions}
use Rattle.kb_stepint.specs.Effects.{plan_of, effect_of}
use Rattle.kb_stepint.specs.Laws.{IsAtInts}
use Rattle.kb_ways.specs.Operands.{an_int, two_ints}
use Rattle.kb_ways.specs.Reached.{IsReached}
use Rattle.kb_ways.specs.Simulation.{HasInputOfState}
use Rattle.kb_stepint.specs.Takes.{taken, reads_argument}
use Rattle.kb_ways.specs.Plans.{takes_next, takes_up, carried_out, followed}
use Rattle.kb_ways.specs.Ways.{Take, ill_typed}
use Rattle.kb_ways.proofs.GrowLaws.{Grows, all_asked_grows, if_has, option_has, HasMore}
use Rattle.kb_ways.proofs.KeepLaws.{Stays}
use Rattle.kb_stepint.proofs.KeepLaws.{effect_makes, takes_next_stays}
use Rattle.kb_stepint.proofs.PlanLaws.{effect_good}
use Rattle.kb_ways.proofs.SoundLaws.{AllCompare, Sound, asked_sound, begun_sound, frame_sound, int_receiver, int_sound, nodes_sound, reached_sound, receiver_seen, sound_reached}
use Rattle.kb_ways.proofs.GoodWays.{went_sound, running_now}
use Rattle.kb_code.specs.declared.instruction.Cond.TheVariants as conds
use Rattle.kb_code.specs.declared.instruction.Instr.TheVariants as instrs
use Rattle.kb_code.specs.declared.instruction.IntOp.TheVariants as ops
use Rattle.kb_picture.specs.declared.choice.Choice.TheVariants as choices

-- ---- what is asked for are comparisons

branch_op : (cond : Cond) (a b : Side) (so : Bool) → is_comparison (branch_condition cond a b so).op ≡ true
branch_op conds.Eq a b so = refl
branch_op conds.Ne a b so = refl
branch_op conds.Lt a b so = refl
branch_op conds.Ge a b so = refl
branch_op conds.Gt a b so = refl
branch_op conds.Le a b so = refl

branch_compares : (cond : Cond) (a b : Side) (choice : Choice) → AllCompare (branch_conditions cond a b choice)
branch_compares cond a b (choices.Branch so) = (branch_op cond a b so, tt)
branch_compares cond a b _ = tt

default_compares : (x : TermId) (keys : List (ℤ × ℕ)) → AllCompare (map (λ (key : ℤ × ℕ). equal_sides (Term x) (Number key.0) false) keys)
default_compares x [] = tt
default_compares x (key ∷ keys) = (refl, default_compares x keys)

if_some_compares : {A : Type 0} (it : Option A) (f : A → List Condition) → ((x : A) → AllCompare (f x)) → AllCompare (if_some it f)
if_some_compares it f h = option_has AllCompare it f [] h tt

keys_compare : (x : TermId) (keys : List (ℤ × ℕ)) (choice : Choice) → AllCompare (key_conditions x keys choice)
keys_compare x keys (choices.Key place) = if_some_compares (slice_get keys place) (λ (key : ℤ × ℕ). equal_sides (Term x) (Number key.0) true ∷ []) (λ key. (refl, tt))
keys_compare x keys choices.Default = default_compares x keys
keys_compare x keys _ = tt

divisor_compares : (x : TermId) (choice : Choice) → AllCompare (divisor_conditions x choice)
divisor_compares x choices.Zero = (refl, tt)
divisor_compares x choices.NotZero = (refl, tt)
divisor_compares x _ = tt

division_compares : (op : IntOp) (x : TermId) (choice : Choice) → AllCompare (division_conditions op x choice)
division_compares ops.Div x choice = divisor_compares x choice
division_compares ops.Rem x choice = divisor_compares x choice
division_compares _ x choice = tt

pub instr_compares : (instr : Instr) (stack : List SymValue) (choice : Choice) → AllCompare (conditions_of instr stack choice)
instr_compares (instrs.IfInt cond target) stack choice =
    if_some_compares (an_int stack) (λ x. branch_conditions cond (Term x) (Number (pos 0)) choice) (λ x. branch_compares cond (Term x) (Number (pos 0)) choice)
instr_compares (instrs.IfPair cond target) stack choice =
    if_some_compares (two_ints stack) (λ t. branch_conditions cond (Term t.0) (Term t.1) choice) (λ t. branch_compares cond (Term t.0) (Term t.1) choice)
instr_compares (instrs.Table low default targets) stack choice =
    if_some_compares (an_int stack) (λ x. key_conditions x (table_keys low targets) choice) (λ x. keys_compare x (table_keys low targets) choice)
instr_compares (instrs.Lookup default keys) stack choice = if_some_compares (an_int stack) (λ x. key_conditions x keys choice) (λ x. keys_compare x keys choice)
instr_compares (instrs.Int2 op) stack choice = if_some_compares (two_ints stack) (λ t. division_conditions op t.1 choice) (λ t. division_compares op t.1 choice)
instr_compares _ stack choice = tt

-- ---- takes

module _ (world : World) (bounds : Bounds) (choice : Choice) where
  -- an instruction is carried out
  carried : (state : State) (frame : SymFrame) (callers : List SymFrame) (found : Instr × ℕ) → state.stage ≡ Runs frame callers → Sound world state
      → Sound world (followed world bounds found.1 (effect_of world state choice found.0)).state
  carried state frame callers found running sound =
      let effect = effect_of world state choice found.0 in
      let here = frame_sound world state frame callers running sound in
      let back : Runs frame callers ≡ state.stage = sym running in
      let good = effect_good world state
      (subst (λ (stage : Stage). max_locals_of world (method_now state.method stage) ≤ length (locals_of stage)) back here.0.room)
      (subst (λ (stage : Stage). Each (IsLocal world state) (locals_of stage)) back here.0.locals)
      (subst (λ (stage : Stage). Each (IsSymValue world state) (stack_of stage)) back here.0.stack) choice found.0 in
      let more : HasMore state effect.state = effect_makes world state choice found.0 in
      went_sound world bounds found.1 effect.state frame callers (ap (λ (s : State). s.stage) more.rest ∙ running)
      (subst (Sound world) (sym more.rest) (nodes_sound world state effect.state.nodes more.on sound)) effect.way good

  answered_sound : (state : State) (frame : SymFrame) (callers : List SymFrame) (found : Instr × ℕ) → state.stage ≡ Runs frame callers → Sound world state
      → Sound world (carried_out plan_of world bounds choice state found).state
  answered_sound state frame callers found running sound =
      let conditions = conditions_of found.0 (stack_of state.stage) choice in
      let grows : Grows state (all_asked state conditions) = all_asked_grows conditions state in
      carried (all_asked state conditions) frame callers found (ap (λ (s : State). s.stage) grows.rest ∙ running)
      (asked_sound world state conditions (instr_compares found.0 (stack_of state.stage) choice) sound)

  takes_up_sound : (state : State) (frame : SymFrame) (callers : List SymFrame) → state.stage ≡ Runs frame callers → Sound world state → Sound world (takes_up plan_of world bounds choice state).state
  takes_up_sound state frame callers running sound =
      option_has (λ (take : Take). Sound world take.state) (instruction_at world (method_now state.method state.stage) (offset_now state.stage)) (carried_out plan_of world bounds choice state) (ill_typed world state)
      (λ found. answered_sound state frame callers found running sound) sound

  takes_next_sound : (old : State) → Sound world old → argument_next world old.method old.stage ≡ None → Sound world (takes_next plan_of world bounds choice old).state
  takes_next_sound old sound none =
      let run = running_now world bounds choice old in
      if_has (λ (take : Take). Sound world take.state) (nat_le bounds.run.steps old.carried) (record { state = old; outcome = Cut Steps }) (takes_up plan_of world bounds choice (begun world old))
      sound (takes_up_sound (begun world old) run.0 run.1 run.2 (begun_sound world old sound none))

  abbrev after : State → Option JType → Take
  after old next = option_map_or (reads_argument old) next (takes_next plan_of world bounds choice old)

  pub taken_sound : (old : State) → IsAtInts world old → Sound world (taken world bounds old choice).state
  taken_sound old at = go (argument_next world old.method old.stage) refl where
    sound : Sound world old
    sound = sound_reached world old at.reached

    go : (next : Option JType) → argument_next world old.method old.stage ≡ next → Sound world (after old next).state
    go None e = takes_next_sound old sound e
    go (Some type) e = int_sound world old sound type e at.next

  pub is_reached : (old : State) → IsAtInts world old → IsPool (taken world bounds old choice).state.nodes → IsReached world (taken world bounds old choice).state
  is_reached old at pool = reached_sound world (taken world bounds old choice).state (taken_sound old at) pool

  -- ---- the picture

  pub has_input : (old : State) → IsAtInts world old → HasInputOfState world (taken world bounds old choice).state
  has_input old at = record { typed = (taken_sound old at).typed; receiver = go (argument_next world old.method old.stage) refl } where
    sound : Sound world old
    sound = sound_reached world old at.reached

    go : (next : Option JType) → argument_next world old.method old.stage ≡ next → IsReceiverSeen world (after old next).state.method (after old next).state.picture
    go None e =
        let stays : Stays old (takes_next plan_of world bounds choice old).state = takes_next_stays world bounds choice old in
        subst (λ m. IsReceiverSeen world m (takes_next plan_of world bounds choice old).state.picture) (sym stays.method)
        (subst (λ (p : Picture). IsReceiverSeen world old.method p) (sym stays.picture) (receiver_seen world old sound e))
    go (Some type) e = int_receiver world old sound type e at.next
