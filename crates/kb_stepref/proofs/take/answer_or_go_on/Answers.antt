use Rattle.std.proofs.Common.{◌≡◌, Option, IfOk, sym, ap, subst, ◌∙◌}
use Rattle.std.specs.Option.{option_map_or}
use Rattle.kb_class.specs.Naming.{Has}
use Rattle.kb_frames.specs.declared.value.Outcome.{Outcome}
use Rattle.kb_picture.specs.declared.choice.Choice.TheVariants.{Only}
use Rattle.kb_ways.specs.declared.question.Question.{Question}
use Rattle.kb_ways.specs.Advancing.{only}
use Rattle.kb_ways.specs.Plans.{takes_next}
use Rattle.kb_ways.specs.Questions.{answers}
use Rattle.kb_ways.specs.Turns.{told}
use Rattle.kb_ways.specs.Ways.{Take}
use Rattle.kb_stepref.specs.Choices.{alternatives}
use Rattle.kb_stepref.specs.Effects.{plan_of}
use Rattle.kb_stepref.specs.Questions.{asked_by}
use Rattle.kb_stepref.proofs.take.answer_or_go_on.Goals as goal

pub take_answer-requires-clause-asks : goal.take_answer-requires-clause-asks
take_answer-requires-clause-asks c = c.requires.look.question ∙ c.in-Some.is

pub take_answer-requires-clause-listed : goal.take_answer-requires-clause-listed
take_answer-requires-clause-listed c =
    subst (λ (asks : Option Question). Has (option_map_or (alternatives c.args.world.now c.args.state.now c.args.bounds.now) asks only) c.args.choice.now)
    (c.requires.look.question ∙ c.in-Some.is) c.requires.listed

pub take_next-requires-clause-nothing : goal.take_next-requires-clause-nothing
take_next-requires-clause-nothing c = c.requires.look.question ∙ c.in-None.is

pub returns-in-Some : goal.returns-in-Some
returns-in-Some c =
    subst (λ (take : Take). IfOk c.take_answer.result (λ (outcome : Outcome). told c.take_answer.new.state outcome ≡ take))
    (ap (λ (asks : Option Question). option_map_or (answers (asked_by c.args.bounds.now) plan_of c.args.world.now c.args.bounds.now c.args.choice.now c.args.state.now) asks (takes_next plan_of c.args.world.now c.args.bounds.now Only c.args.state.now))
    (sym (c.requires.look.question ∙ c.in-Some.is))) c.take_answer.ensures

pub returns-in-None : goal.returns-in-None
returns-in-None c =
    subst (λ (take : Take). IfOk c.take_next.result (λ (outcome : Outcome). told c.take_next.new.state outcome ≡ take))
    (ap (λ (asks : Option Question). option_map_or (answers (asked_by c.args.bounds.now) plan_of c.args.world.now c.args.bounds.now c.args.choice.now c.args.state.now) asks (takes_next plan_of c.args.world.now c.args.bounds.now Only c.args.state.now))
    (sym (c.requires.look.question ∙ c.in-None.is))) c.take_next.ensures
