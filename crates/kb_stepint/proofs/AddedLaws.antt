-- Each condition that the take of an alternative adds is on a comparison by which the step goes on.
use Rattle.std.proofs.Common.{◌≡◌, ℕ, ℤ, Bool, true, false, List, [], nat_le, slice_get, Option, Some, None, refl, sym, ap, subst, ◌∙◌, if◌then◌else◌}
use Rattle.std.specs.Option.{option_map, option_map_or}
use Rattle.kb_code.specs.declared.instruction.Instr.{Instr}
use Rattle.kb_heap.specs.declared.bounds.Bounds.{Bounds}
use Rattle.kb_heap.specs.declared.heap.Input.{Input}
use Rattle.kb_heap.specs.declared.heap.Value.TheVariants.{Int as IntValue}
use Rattle.kb_classes.specs.World.{World}
use Rattle.kb_semantics.specs.Config.{Setting, Config, instruction_at}
use Rattle.kb_semantics.specs.Comparisons.{Comparison}
use Rattle.kb_semantics.specs.Looks.{taken_up}
use Rattle.kb_terms.specs.declared.node.TermId.{TermId}
use Rattle.kb_terms.specs.declared.node.Node.{Node}
use Rattle.kb_terms.specs.Terms.{Extends, value_of}
use Rattle.kb_picture.specs.declared.choice.Choice.{Choice}
use Rattle.kb_picture.specs.declared.picture.PlaceLists.{PlaceLists}
use Rattle.kb_picture.specs.Instances.{variable_values}
use Rattle.kb_frames.specs.declared.frame.SymFrame.{SymFrame}
use Rattle.kb_frames.specs.declared.state.Stage.{Stage}
use Rattle.kb_frames.specs.declared.state.Stage.TheVariants.{Begins, Runs}
use Rattle.kb_frames.specs.declared.value.Outcome.TheVariants.{Cut}
use Rattle.kb_heap.specs.declared.bounds.Bound.TheVariants.{Steps}
use Rattle.kb_frames.specs.declared.value.SymValue.{SymValue}
use Rattle.kb_frames.specs.declared.value.SymValue.TheVariants.{Int, Null, Obj, Literal, New, Loc}
use Rattle.kb_frames.specs.Cuts.{setting_of}
use Rattle.kb_frames.specs.Lent.{begun, begun_stage, stack_of}
use Rattle.kb_frames.specs.Next.{argument_next, method_now, offset_now}
use Rattle.kb_frames.specs.StandsFor.{StandsFor, StageStandsFor, FrameStandsFor, reading_at, value_of_sym}
use Rattle.kb_frames.specs.State.{State}
use Rattle.kb_frames.specs.States.{IsSymValue, IsStage}
use Rattle.kb_frames.proofs.RunLaws.{counters_agree}
use Rattle.kb_ways.specs.Asked.{all_asked}
use Rattle.kb_stepint.specs.Choices.{conditions_of}
use Rattle.kb_stepint.specs.Effects.{plan_of, effect_of}
use Rattle.kb_ways.specs.Needs.{IsTermOf}
use Rattle.kb_ways.specs.Reached.{IsReached}
use Rattle.kb_frames.specs.Comparing.{comparison_of}
use Rattle.kb_ways.specs.Simulation.{AddsComparisons, IsComparedBy}
use Rattle.kb_stepint.specs.Takes.{taken, reads_argument}
use Rattle.kb_ways.specs.Plans.{takes_next, takes_up, carried_out}
use Rattle.kb_ways.specs.Ways.{Take, ill_typed, went}
use Rattle.kb_ways.proofs.AskedLaws.{AreAskable, all_asked_adds}
use Rattle.kb_stepint.proofs.ComparedLaws.{instr_askable}
use Rattle.kb_ways.proofs.GrowLaws.{option_has, HasMore, more_grows}
use Rattle.kb_ways.proofs.OneInstances.{same_variables}
use Rattle.kb_ways.proofs.KeepLaws.{Stays, stays_grown, stays_on, went_stays, went_when, same_when}
use Rattle.kb_stepint.proofs.KeepLaws.{effect_makes, takes_next_stays}
use Rattle.kb_code.specs.declared.instruction.Instr.TheVariants as instrs

-- an empty stack asks for nothing
none_askable : (P : Option Comparison → Type 0) (nodes : List Node) (variables : List ℤ) (instr : Instr) (choice : Choice) → AreAskable P nodes variables (conditions_of instr [] choice)
none_askable P nodes variables (instrs.IfInt cond target) choice = tt
none_askable P nodes variables (instrs.IfPair cond target) choice = tt
none_askable P nodes variables (instrs.Table low default targets) choice = tt
none_askable P nodes variables (instrs.Lookup default keys) choice = tt
none_askable P nodes variables (instrs.Int2 op) choice = tt
none_askable P nodes variables _ choice = tt

module _ (world : World) (bounds : Bounds) (old : State) where
  abbrev s : Setting
  s = setting_of world bounds

  -- the ints of a stack of the state are terms
  stack_terms : (stack : List SymValue) → ((i : ℕ) (item : SymValue) → slice_get stack i ≡ Some item → IsSymValue world old item) → (depth : ℕ) → IsTermOf old.nodes (slice_get stack depth)
  stack_terms stack each depth = go (slice_get stack depth) refl where
    go : (it : Option SymValue) → slice_get stack depth ≡ it → IsTermOf old.nodes it
    go None e = tt
    go (Some (Int t)) e = each depth (Int t) e
    go (Some Null) e = tt
    go (Some (Obj n)) e = tt
    go (Some (Literal n)) e = tt
    go (Some (New n)) e = tt
    go (Some (Loc n)) e = tt

  module _ (input : Input) (c : Config) (stands : StandsFor s old input c) (reached : IsReached world old) (within : nat_le bounds.run.steps old.carried ≡ false) where
    abbrev places : PlaceLists
    places = stands.instance_of.shape.places

    abbrev variables : List ℤ
    variables = variable_values old.picture input places.objects

    ints : (t : TermId) → value_of_sym (reading_at world old input places) (Int t) ≡ IntValue (value_of old.nodes t variables)
    unfolding reading_at value_of
    ints t = refl

    up_is : (frame : SymFrame) (found : Instr × ℕ) → FrameStandsFor (reading_at world old input places) frame c.frame → instruction_at world frame.method frame.at ≡ Some found → taken_up s c ≡ Some found.0
    up_is frame found stood at =
        let count : c.carried ≡ old.carried = counters_agree s old input c stands in
        let steps : nat_le bounds.run.steps c.carried ≡ false = ap (nat_le bounds.run.steps) count ∙ within in
        let here : instruction_at world c.frame.method c.frame.at ≡ Some found =
        ap (λ m. instruction_at world m c.frame.at) stood.method ∙ ap (instruction_at world frame.method) stood.at ∙ at in
        ap (λ (b : Bool). if b then None else option_map (λ (f : Instr × ℕ). f.0) (instruction_at world c.frame.method c.frame.at)) steps
        ∙ ap (option_map (λ (f : Instr × ℕ). f.0)) here

    askable : (stage : Stage) (found : Instr × ℕ) (choice : Choice) → old.stage ≡ stage → instruction_at world (method_now old.method (begun_stage world old stage)) (offset_now (begun_stage world old stage)) ≡ Some found
        → AreAskable (IsComparedBy s c) old.nodes variables (conditions_of found.0 (stack_of (begun_stage world old stage)) choice)
    askable (Begins read) found choice is at = none_askable (IsComparedBy s c) old.nodes variables found.0 choice
    askable (Runs frame callers) found choice is at =
        let stood = subst (λ (st : Stage). StageStandsFor (reading_at world old input places) input st c) is stands.stage in
        let sound = subst (λ (st : Stage). IsStage world old st) is reached.sound.stage in
        instr_askable s c old.nodes variables (value_of_sym (reading_at world old input places)) ints frame.stack stood.0.stack (stack_terms frame.stack sound.0.stack) found.0 choice
        (up_is frame found stood.0 at)

  answered_adds : (choice : Choice) (found : Instr × ℕ) → IsReached world old → nat_le bounds.run.steps old.carried ≡ false
      → instruction_at world (method_now old.method (begun_stage world old old.stage)) (offset_now (begun_stage world old old.stage)) ≡ Some found
      → Stays old (carried_out plan_of world bounds choice (begun world old) found).state → AddsComparisons world bounds old (carried_out plan_of world bounds choice (begun world old) found).state
  answered_adds choice found reached within up stays input c correct stands shape i condition from at =
      let conditions = conditions_of found.0 (stack_of (begun_stage world old old.stage)) choice in
      let grown : State = all_asked (begun world old) conditions in
      let effect = effect_of world grown choice found.0 in
      let new : State = (went world bounds found.1 effect.state effect.way).state in
      let more : HasMore grown effect.state = effect_makes world grown choice found.0 in
      let extends : Extends grown.nodes new.nodes =
      (stays_on grown effect.state new (stays_grown grown effect.state (more_grows grown effect.state more)) (went_stays world bounds found.1 effect.state effect.way)).terms in
      let same : new.when ≡ grown.when = went_when world bounds found.1 effect.state effect.way ∙ ap (λ (s : State). s.when) more.rest in
      let early : slice_get grown.when i ≡ Some condition = ap (λ (l : List (TermId × Bool)). slice_get l i) (sym same) ∙ at in
      let compared = all_asked_adds (IsComparedBy s c) (variables input c stands reached within) conditions (begun world old)
      (askable input c stands reached within old.stage found choice refl up) i condition from early new.nodes extends in
      subst (λ (values : List ℤ). IsComparedBy s c (comparison_of new.nodes values condition.0)) (same_variables old.picture input stands.instance_of.shape new.picture stays.picture shape) compared

  takes_up_adds : (choice : Choice) → IsReached world old → nat_le bounds.run.steps old.carried ≡ false → Stays old (takes_up plan_of world bounds choice (begun world old)).state
      → AddsComparisons world bounds old (takes_up plan_of world bounds choice (begun world old)).state
  takes_up_adds choice reached within = go (instruction_at world (method_now old.method (begun_stage world old old.stage)) (offset_now (begun_stage world old old.stage))) refl where
    go : (it : Option (Instr × ℕ)) → instruction_at world (method_now old.method (begun_stage world old old.stage)) (offset_now (begun_stage world old old.stage)) ≡ it
        → Stays old (option_map_or (carried_out plan_of world bounds choice (begun world old)) it (ill_typed world (begun world old))).state
        → AddsComparisons world bounds old (option_map_or (carried_out plan_of world bounds choice (begun world old)) it (ill_typed world (begun world old))).state
    go None e stays = same_when world bounds old (ill_typed world (begun world old)).state refl
    go (Some found) e stays = answered_adds choice found reached within e stays

  abbrev next_take : Choice → Bool → Take
  next_take choice b = if b then record { state = old; outcome = Cut Steps } else takes_up plan_of world bounds choice (begun world old)

  takes_next_adds : (choice : Choice) → IsReached world old → AddsComparisons world bounds old (takes_next plan_of world bounds choice old).state
  takes_next_adds choice reached = go (nat_le bounds.run.steps old.carried) refl (takes_next_stays world bounds choice old) where
    go : (b : Bool) → nat_le bounds.run.steps old.carried ≡ b → Stays old (next_take choice b).state → AddsComparisons world bounds old (next_take choice b).state
    go true e stays = same_when world bounds old old refl
    go false e stays = takes_up_adds choice reached e stays

  pub adds : (choice : Choice) → IsReached world old → AddsComparisons world bounds old (taken world bounds old choice).state
  adds choice reached =
      option_has (λ (take : Take). AddsComparisons world bounds old take.state) (argument_next world old.method old.stage) (reads_argument old)
      (takes_next plan_of world bounds choice old) (λ type. same_when world bounds old (reads_argument old type).state refl) (takes_next_adds choice reached)
