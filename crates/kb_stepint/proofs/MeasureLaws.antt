-- Each take of an int step leaves fewer choices before the same instruction, or has carried out one more.
use Rattle.std.proofs.Common.{◌≡◌, ℕ, nat_le, Option, Some, None, refl, ap, ◌∙◌}
use Rattle.std.specs.Option.{option_map_or}
use Rattle.kb_code.specs.declared.instruction.Instr.{Instr}
use Rattle.kb_heap.specs.declared.bounds.Bounds.{Bounds}
use Rattle.kb_classes.specs.World.{World}
use Rattle.kb_names.specs.declared.types.JType.{JType}
use Rattle.kb_semantics.specs.Config.{instruction_at}
use Rattle.kb_picture.specs.declared.choice.Choice.{Choice}
use Rattle.kb_frames.specs.State.{State}
use Rattle.kb_frames.specs.Lent.{begun, stack_of}
use Rattle.kb_frames.specs.Next.{argument_next, method_now, offset_now}
use Rattle.kb_ways.specs.Asked.{all_asked}
use Rattle.kb_stepint.specs.Choices.{conditions_of}
use Rattle.kb_stepint.specs.Effects.{plan_of, effect_of}
use Rattle.kb_stepint.specs.Takes.{taken, reads_argument}
use Rattle.kb_ways.specs.Plans.{takes_next, takes_up, carried_out}
use Rattle.kb_ways.specs.Ways.{ill_typed}
use Rattle.kb_ways.proofs.GrowLaws.{Grows, if_has, option_has, all_asked_grows, HasMore}
use Rattle.kb_ways.proofs.MeasureLaws.{Gets, reads_on, went_on}
use Rattle.kb_stepint.proofs.KeepLaws.{effect_makes}

-- ---- arguments

module _ (world : World) (bounds : Bounds) (old : State) where
  -- ---- ways on

  answers_on : (choice : Choice) (state : State) (found : Instr × ℕ) → state.carried ≡ old.carried → Gets world bounds old (carried_out plan_of world bounds choice state found)
  answers_on choice state found e =
      let conditions = conditions_of found.0 (stack_of state.stage) choice in
      let grown : Grows state (all_asked state conditions) = all_asked_grows conditions state in
      let same : (all_asked state conditions).carried ≡ state.carried = ap (λ (s : State). s.carried) grown.rest in
      let effect = effect_of world (all_asked state conditions) choice found.0 in
      let more : HasMore (all_asked state conditions) effect.state = effect_makes world (all_asked state conditions) choice found.0 in
      went_on world bounds old found.1 effect.state effect.way (ap (λ (s : State). s.carried) more.rest ∙ same ∙ e)

  takes_up_on : (choice : Choice) (state : State) → state.carried ≡ old.carried → Gets world bounds old (takes_up plan_of world bounds choice state)
  takes_up_on choice state e =
      option_has (Gets world bounds old) (instruction_at world (method_now state.method state.stage) (offset_now state.stage)) (carried_out plan_of world bounds choice state) (ill_typed world state)
      (λ found. answers_on choice state found e) tt

  takes_next_on : (choice : Choice) → Gets world bounds old (takes_next plan_of world bounds choice old)
  takes_next_on choice = if_has (Gets world bounds old) (nat_le bounds.run.steps old.carried) _ _ tt (takes_up_on choice (begun world old) refl)

  pub gets_on : (choice : Choice) → Gets world bounds old (taken world bounds old choice)
  gets_on choice = go (argument_next world old.method old.stage) refl where
    go : (next : Option JType) → argument_next world old.method old.stage ≡ next → Gets world bounds old (option_map_or (reads_argument old) next (takes_next plan_of world bounds choice old))
    go None e = takes_next_on choice
    go (Some type) e = (refl, reads_on world bounds old old.stage type refl e)
