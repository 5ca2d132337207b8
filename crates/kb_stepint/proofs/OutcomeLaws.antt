-- What the outcome of a take says of a configuration for which the state stood is so: by the kind of the effect and by the way.
use Rattle.std.proofs.Common.{◌≡◌, ℕ, zero, suc, ℤ, Bool, true, false, not, ◌||◌, List, [], ◌∷◌, filter, nat_le, slice_get, Option, Some, None, refl, sym, ap, subst, ◌∙◌, if◌then◌else◌, is_some}
use Rattle.std.specs.Option.{option_map, option_map_or}
use Rattle.std.proofs.lemmas.Bool.{leb-true}
use Rattle.kb_class.specs.declared.ids.MethodId.{MethodId}
use Rattle.kb_class.specs.Naming.{Has}
use Rattle.kb_code.specs.Listing.{HasRisingKeys}
use Rattle.kb_code.specs.declared.instruction.Instr.{Instr}
use Rattle.kb_code.specs.declared.instruction.Instr.TheVariants as instrs
use Rattle.kb_heap.specs.declared.bounds.Bound.TheVariants.{Steps}
use Rattle.kb_heap.specs.declared.bounds.Bounds.{Bounds}
use Rattle.kb_heap.specs.declared.heap.Input.{Input}
use Rattle.kb_classes.specs.World.{World}
use Rattle.kb_names.specs.declared.types.JType.{JType}
use Rattle.kb_semantics.specs.Config.{Setting, Config, instruction_at}
use Rattle.kb_semantics.specs.Inputs.{IsTypeCorrect}
use Rattle.kb_semantics.specs.Looks.{if_some, stored_by, stores}
use Rattle.kb_semantics.specs.Step.{effect, step}
use Rattle.kb_semantics.specs.Ways.{ill_typed as ill_typed_step}
use Rattle.kb_terms.specs.declared.node.TermId.{TermId}
use Rattle.kb_terms.specs.declared.node.Node.{Node}
use Rattle.kb_terms.specs.Terms.{Extends}
use Rattle.kb_terms.proofs.Values.{Extends-refl, Extends-trans, IsTerm-extends}
use Rattle.kb_picture.specs.declared.choice.Choice.{Choice}
use Rattle.kb_picture.specs.declared.picture.PlaceLists.{PlaceLists}
use Rattle.kb_picture.specs.Endings.{Reading}
use Rattle.kb_picture.specs.Instances.{variable_values}
use Rattle.kb_picture.specs.WellTyped.{is_reference_type}
use Rattle.kb_frames.specs.declared.state.Stage.{Stage}
use Rattle.kb_frames.specs.declared.state.Stage.TheVariants.{Begins, Runs}
use Rattle.kb_frames.specs.declared.value.Outcome.TheVariants.{Cut}
use Rattle.kb_frames.specs.declared.value.SymValue.{SymValue}
use Rattle.kb_frames.specs.declared.value.SymValue.TheVariants.{Int}
use Rattle.kb_frames.specs.Cuts.{setting_of}
use Rattle.kb_frames.specs.Lent.{begun, begun_stage, stack_of}
use Rattle.kb_frames.specs.Next.{argument_next, instruction_next, is_int, is_int_instruction, is_int_next, method_now, offset_now}
use Rattle.kb_frames.specs.StandsFor.{FrameStandsFor, FramesStandFor, IsInstanceOf, StandsFor, reading_at}
use Rattle.kb_frames.specs.State.{State}
use Rattle.kb_frames.proofs.RunLaws.{counters_agree}
use Rattle.kb_ways.specs.declared.condition.Condition.{Condition}
use Rattle.kb_ways.specs.Asked.{all_asked, is_refuted}
use Rattle.kb_stepint.specs.Choices.{choices_of, conditions_of, listed, offered}
use Rattle.kb_ways.specs.Advancing.{only}
use Rattle.kb_ways.specs.Plans.{Planned, carried_out, takes_next, takes_up, followed}
use Rattle.kb_stepint.specs.Effects.{plan_of, effect_of}
use Rattle.kb_stepint.specs.Laws.{IsAtInts}
use Rattle.kb_ways.specs.Needs.{IsTermOf}
use Rattle.kb_ways.specs.Simulation.{FollowsStep, IsOutcome}
use Rattle.kb_stepint.specs.Takes.{reads_argument, taken}
use Rattle.kb_ways.specs.Ways.{Take, ill_typed, went}
use Rattle.kb_ways.proofs.GrowLaws.{Grows, all_asked_grows, HasMore}
use Rattle.kb_stepint.proofs.KeepLaws.{effect_makes}
use Rattle.kb_ways.proofs.OneAsked.{AllHold, AllSides, IsReady, conditions_there, hold_later}
use Rattle.kb_ways.proofs.OneDecided.{all_ready}
use Rattle.kb_ways.proofs.BegunLaws.{begun_terms, place_same, stack_same, sym_term, sym_terms}
use Rattle.kb_stepint.proofs.OneLaws.{instance_held, one_term, two_terms}
use Rattle.kb_stepint.proofs.OneListed.{conditions_sides}
use Rattle.kb_stepint.proofs.OutcomePlans.{HasFrameTerms, Reads, plan_is}
use Rattle.kb_stepint.proofs.OutcomeReads.{reads_is}
use Rattle.kb_ways.proofs.OfferLaws.{has_kept}
use Rattle.kb_ways.proofs.OutcomeStands.{Running, running}
use Rattle.kb_ways.proofs.OutcomeValues.{frame_later, frames_later, reading_int, reading_later}
use Rattle.kb_ways.proofs.OutcomeWays.{ill_typed_is, went_is}
use Rattle.kb_ways.proofs.PastLaws.{cut_by_steps}
use Rattle.kb_ways.proofs.SoundLaws.{sound_reached}
use Rattle.kb_ways.proofs.ValueLaws.{IsOrdered, pool_ordered}
use Rattle.kb_ways.proofs.StepLaws.{step_taken, stores_taken}

-- an instruction on ints stores nothing
stores_nothing : (world : World) (method : MethodId) (instr : Instr) (s : Setting) (c : Config) → is_int_instruction world method instr ≡ true → stored_by instr s c ≡ []
stores_nothing world method (instrs.PutField entry) s c e = absurd cc
stores_nothing world method (instrs.StoreElem elem) s c e = absurd cc
stores_nothing world method _ s c e = refl

-- ---- a run that goes on

module _ (world : World) (bounds : Bounds) (old : State) (at : IsAtInts world old) (input : Input) (c : Config) (correct : IsTypeCorrect world old.method input)
    (stands : StandsFor (setting_of world bounds) old input c) (none : argument_next world old.method old.stage ≡ None) (within : nat_le bounds.run.steps old.carried ≡ false) where
  abbrev s : Setting
  s = setting_of world bounds

  abbrev places : PlaceLists
  places = stands.instance_of.shape.places

  abbrev variables : List ℤ
  variables = variable_values old.picture input places.objects

  run : Running world old old.stage (reading_at world old input places) c
  run = running s old input c (reading_at world old input places) correct stands.run old.stage at.reached.sound.stage stands.stage none

  -- the state with other terms and conditions, in the frames with which it goes on
  abbrev canon : List Node → List (TermId × Bool) → State
  canon nodes when = record old { stage = Runs run.frame run.callers; nodes = nodes; when = when }

  framed : (nodes : List Node) (when : List (TermId × Bool)) → Extends old.nodes nodes → FrameStandsFor (reading_at world (canon nodes when) input places) run.frame c.frame
  framed nodes when more =
      frame_later world old (reading_at world old input places) (reading_at world (canon nodes when) input places) (reading_later world old (canon nodes when) input places refl more) run.frame c.frame run.sound run.stands

  waiting : (nodes : List Node) (when : List (TermId × Bool)) → Extends old.nodes nodes → FramesStandFor (reading_at world (canon nodes when) input places) run.callers c.callers
  waiting nodes when more =
      frames_later world old (reading_at world old input places) (reading_at world (canon nodes when) input places) (reading_later world old (canon nodes when) input places refl more) run.callers c.callers run.each
      run.waiting

  place_is : instruction_at world c.frame.method c.frame.at ≡ instruction_at world (method_now old.method (begun_stage world old old.stage)) (offset_now (begun_stage world old old.stage))
  place_is =
      ap (λ (m : MethodId). instruction_at world m c.frame.at) run.stands.method ∙ ap (instruction_at world run.frame.method) run.stands.at
      ∙ ap (λ (stage : Stage). instruction_at world (method_now old.method stage) (offset_now stage)) (sym run.is)

  within_now : nat_le s.bounds.steps c.carried ≡ false
  within_now = ap (nat_le bounds.run.steps) (counters_agree s old input c stands) ∙ within

  step_at : (found : Option (Instr × ℕ)) → instruction_at world c.frame.method c.frame.at ≡ found → step s c ≡ option_map_or (λ (f : Instr × ℕ). effect f.0 s f.1 c) found (ill_typed_step s c)
  step_at found e = step_taken s c within_now found e

  stores_at : (found : Option (Instr × ℕ)) → instruction_at world c.frame.method c.frame.at ≡ found → stores s c ≡ if_some (option_map (λ (f : Instr × ℕ). f.0) found) (λ (instr : Instr). stored_by instr s c)
  stores_at found e = stores_taken s c within_now found e

  abbrev Follows : Take → Type 0
  Follows take = (i : IsInstanceOf take.state input) → IsOutcome world bounds c take.state input i take.outcome

  -- ---- off the end of the code

  runs_off : instruction_at world c.frame.method c.frame.at ≡ None → Follows (ill_typed world (begun world old))
  runs_off e =
      subst (λ (stage : Stage). Follows (ill_typed world (record old { stage = stage }))) (sym run.is)
      (ill_typed_is world bounds old (sound_reached world old at.reached) input c stands run.frame run.callers (run.sound, run.each) 0 old.nodes (Extends-refl old.nodes) old.when
      (framed old.nodes old.when (Extends-refl old.nodes)) (waiting old.nodes old.when (Extends-refl old.nodes)) (step_at None e))

  -- ---- an instruction is carried out

  module _ (found : Instr × ℕ) (there : instruction_at world c.frame.method c.frame.at ≡ Some found) (int : is_int_instruction world run.frame.method found.0 ≡ true) (rising : HasRisingKeys found.0) where
    frame_terms : (nodes : List Node) → Extends old.nodes nodes → HasFrameTerms nodes run.frame
    frame_terms nodes more = record {
      stack = λ depth. later (slice_get run.frame.stack depth) (sym_terms world old run.frame.stack run.sound.stack depth);
      locals = λ k value e. later (Some value) (sym_term world old value (run.sound.locals k (Some value) e));
    } where
      later : (value : Option SymValue) → IsTermOf old.nodes value → IsTermOf nodes value
      later (Some (Int t)) is = IsTerm-extends old.nodes nodes t more is
      later _ is = tt

    module _ (nodes : List Node) (more : Extends old.nodes nodes) (ordered : IsOrdered nodes) (when : List (TermId × Bool)) (choice : Choice) (has : Has (listed found.0 run.frame.stack) choice)
        (held : AllHold nodes variables (conditions_of found.0 run.frame.stack choice)) where
      abbrev R : List Node → Reading
      R later = reading_at world (canon later when) input places

      abbrev plan : Planned
      plan = effect_of world (canon nodes when) choice found.0

      reads : Reads R nodes variables run.frame c
      reads = record {
        stands = λ later on. framed later when (Extends-trans old.nodes nodes later more on);
        ints = λ later t. reading_int world (canon later when) input places t;
      }

      canon_follows : Follows (followed world bounds found.1 plan)
      canon_follows =
          let made : HasMore (canon nodes when) plan.state = effect_makes world (canon nodes when) choice found.0 in
          let on : Extends old.nodes plan.state.nodes = Extends-trans old.nodes nodes plan.state.nodes more made.on.terms in
          let effect_is = plan_is s c found.1 (record old { when = when }) run.frame run.callers nodes variables R reads ordered (frame_terms nodes more) found.0 choice int has held rising in
          subst (λ (st : State). Follows (went world bounds found.1 st plan.way)) (sym made.rest)
          (went_is world bounds old (sound_reached world old at.reached) input c stands run.frame run.callers (run.sound, run.each) found.1
          plan.state.nodes on when (framed plan.state.nodes when on) (waiting plan.state.nodes when on) (stores_at (Some found) there ∙ stores_nothing world run.frame.method found.0 s c int) plan.way (step_at (Some found) there ∙ effect_is))

    -- ---- it is taken up

    abbrev stack : List SymValue
    stack = stack_of (begun_stage world old old.stage)

    stack_is : stack ≡ run.frame.stack
    stack_is = ap stack_of run.is

    answered_follows : (choice : Choice) → Has (offered old (stack_of old.stage) found.0) choice → Follows (carried_out plan_of world bounds choice (begun world old) found)
    answered_follows choice has i =
        let cs : List Condition = conditions_of found.0 stack choice in
        let start : State = begun world old in
        let grown : State = all_asked start cs in
        let grows : Grows start grown = all_asked_grows cs start in
        let here : Has (filter (λ (x : Choice). not (is_refuted old (conditions_of found.0 stack x))) (listed found.0 stack)) choice =
        subst (λ (l : List SymValue). Has (offered old l found.0) choice) (sym (stack_same world old old.stage)) has in
        let both = has_kept (λ (x : Choice). not (is_refuted old (conditions_of found.0 stack x))) (listed found.0 stack) choice here in
        let each = begun_terms world old at.reached.sound.stage in
        let sides : AllSides old.nodes cs = conditions_sides old.nodes stack (λ x e. one_term old.nodes stack x each e) (λ p e. two_terms old.nodes stack p each e) found.0 choice in
        let ready : IsReady grown = all_ready cs start sides (record { ordered = pool_ordered old.nodes at.reached.sound.pool; terms = conditions_there old.nodes old.when at.reached.sound.conditions }) in
        let held : AllHold old.nodes variables cs = instance_held world bounds old at.reached input stands.instance_of found choice both.1 i in
        let held_now : AllHold grown.nodes variables cs = hold_later old.nodes grown.nodes variables cs grows.terms sides held in
        let is : grown ≡ canon grown.nodes grown.when = grows.rest ∙ ap (λ (stage : Stage). record old { stage = stage; nodes = grown.nodes; when = grown.when }) run.is in
        subst (λ (st : State). Follows (followed world bounds found.1 (effect_of world st choice found.0))) (sym is)
        (canon_follows grown.nodes grows.terms ready.ordered grown.when choice (subst (λ (l : List SymValue). Has (listed found.0 l) choice) stack_is both.0)
        (subst (λ (l : List SymValue). AllHold grown.nodes variables (conditions_of found.0 l choice)) stack_is held_now)) i

  -- ---- both

  abbrev place : Option (Instr × ℕ)
  place = instruction_at world (method_now old.method (begun_stage world old old.stage)) (offset_now (begun_stage world old old.stage))

  int_here : (found : Instr × ℕ) → place ≡ Some found → is_int_instruction world run.frame.method found.0 ≡ true
  int_here found e =
      let now : is_int_next world (method_now old.method old.stage) (instruction_next world old.method old.stage) ≡ true =
      int_next (argument_next world old.method old.stage) (is_int_next world (method_now old.method old.stage) (instruction_next world old.method old.stage)) none at.next in
      let next : instruction_next world old.method old.stage ≡ Some found.0 = ap (option_map (λ (f : Instr × ℕ). f.0)) (sym (place_same world old old.stage) ∙ e) in
      let method : run.frame.method ≡ method_now old.method old.stage = ap (method_now old.method) (sym run.is) ∙ begun_method old.stage in
      ap (λ (m : MethodId). is_int_instruction world m found.0) method
      ∙ ap (is_int_next world (method_now old.method old.stage)) (sym next) ∙ now
    where
      int_next : (next : Option JType) (at_int : Bool) → next ≡ None → is_int (option_map is_reference_type next) at_int ≡ true → at_int ≡ true
      int_next None at_int none int = int
      int_next (Some kind) at_int none int = absurd cc

      begun_method : (stage : Stage) → method_now old.method (begun_stage world old stage) ≡ method_now old.method stage
      begun_method (Begins read) = refl
      begun_method (Runs frame callers) = refl

  rising_here : (found : Instr × ℕ) → place ≡ Some found → HasRisingKeys found.0
  rising_here found e =
      at.reached.keys (method_now old.method (begun_stage world old old.stage)) (offset_now (begun_stage world old old.stage)) found e

  pub takes_up_follows : (choice : Choice) → Has (option_map_or (offered old (stack_of old.stage)) (instruction_next world old.method old.stage) only) choice → Follows (takes_up plan_of world bounds choice (begun world old))
  takes_up_follows choice has = go place refl (subst (λ (it : Option (Instr × ℕ)). Has (option_map_or (offered old (stack_of old.stage)) (option_map (λ (f : Instr × ℕ). f.0) it) only) choice) (sym (place_same world old old.stage)) has) where
    go : (it : Option (Instr × ℕ)) → place ≡ it → Has (option_map_or (offered old (stack_of old.stage)) (option_map (λ (f : Instr × ℕ). f.0) it) only) choice
        → Follows (option_map_or (carried_out plan_of world bounds choice (begun world old)) it (ill_typed world (begun world old)))
    go None e h = runs_off (place_is ∙ e)
    go (Some found) e h = answered_follows found (place_is ∙ e) (int_here found e) (rising_here found e) choice h

-- ---- all takes

pub follows : (world : World) (bounds : Bounds) (old : State) (choice : Choice) → IsAtInts world old → Has (choices_of world old bounds) choice → FollowsStep world bounds old (taken world bounds old choice)
follows world bounds old choice at has input c correct stands = go (argument_next world old.method old.stage) refl has where
  by_steps : argument_next world old.method old.stage ≡ None → (b : Bool) → nat_le bounds.run.steps old.carried ≡ b
      → Has (if b then only else option_map_or (offered old (stack_of old.stage)) (instruction_next world old.method old.stage) only) choice
      → (i : IsInstanceOf (if b then record { state = old; outcome = Cut Steps } else takes_up plan_of world bounds choice (begun world old)).state input)
      → IsOutcome world bounds c (if b then record { state = old; outcome = Cut Steps } else takes_up plan_of world bounds choice (begun world old)).state input i
      (if b then record { state = old; outcome = Cut Steps } else takes_up plan_of world bounds choice (begun world old)).outcome
  by_steps none true e h i = cut_by_steps world bounds old input c stands (leb-true bounds.run.steps old.carried e)
  by_steps none false e h i = takes_up_follows world bounds old at input c correct stands none e choice h i

  go : (next : Option JType) → argument_next world old.method old.stage ≡ next
      → Has (if is_some next || nat_le bounds.run.steps old.carried then only else option_map_or (offered old (stack_of old.stage)) (instruction_next world old.method old.stage) only) choice
      → (i : IsInstanceOf (option_map_or (reads_argument old) next (takes_next plan_of world bounds choice old)).state input)
      → IsOutcome world bounds c (option_map_or (reads_argument old) next (takes_next plan_of world bounds choice old)).state input i (option_map_or (reads_argument old) next (takes_next plan_of world bounds choice old)).outcome
  go None e h i = by_steps e (nat_le bounds.run.steps old.carried) refl h i
  go (Some type) e h i = reads_is world bounds old input c type at.reached.sound stands e i
