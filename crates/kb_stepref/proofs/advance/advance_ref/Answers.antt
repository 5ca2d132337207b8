use Rattle.std.proofs.Common.{List, Option, refl, sym, ap, subst, ◌∙◌}
use Rattle.std.specs.Option.{option_map_or}
use Rattle.kb_picture.specs.declared.choice.Choice.{Choice}
use Rattle.kb_picture.specs.declared.choice.Choice.TheVariants.{Only}
use Rattle.kb_class.specs.Naming.{Has}
use Rattle.kb_ways.specs.declared.question.Question.{Question}
use Rattle.kb_ways.specs.Advancing.{only}
use Rattle.kb_stepref.specs.Choices.{alternatives}
use Rattle.kb_stepref.proofs.LookLaws.{at_counts, look_asks}
use Rattle.kb_stepref.proofs.OnlyLaws.{chosen_at, only_at}
use Rattle.kb_stepref.proofs.advance.advance_ref.Goals as goal

pub look_at-requires : goal.look_at-requires
look_at-requires c = at_counts c.args.world.now c.args.state.now c.requires.at

pub offered-requires : goal.offered-requires
offered-requires c = look_asks c.args.world.now c.args.bounds.now c.args.state.now c.requires.at c.in_ok-look.look c.in_ok-look.ensures

pub take_told-requires-clause-listed : goal.take_told-requires-clause-listed
take_told-requires-clause-listed c =
    subst (λ (choices : List Choice). Has choices Only)
    (sym (only_at c.args.world.now c.args.bounds.now c.args.state.now c.in_ok-look.look.question (sym c.in_ok-look.ensures.question) (sym c.is_choice.ensures ∙ c.if-is_choice.false))) (0, refl)

pub returns-then-is_choice-clause-advanced : goal.returns-then-is_choice-clause-advanced
returns-then-is_choice-clause-advanced c = (
  refl,
  c.in_ok-choices.ensures ∙ ap (λ (q : Option Question). option_map_or (alternatives c.args.world.now c.args.state.now c.args.bounds.now) q only) (sym c.in_ok-look.ensures.question),
  chosen_at c.args.world.now c.args.bounds.now c.args.state.now c.requires.at.lazy c.in_ok-look.look.question (sym c.in_ok-look.ensures.question) (sym c.is_choice.ensures ∙ c.if-is_choice.true),
)

pub returns-clause-advanced : goal.returns-clause-advanced
returns-clause-advanced c = (
  only_at c.args.world.now c.args.bounds.now c.args.state.now c.in_ok-look.look.question (sym c.in_ok-look.ensures.question) (sym c.is_choice.ensures ∙ c.if-is_choice.false),
  c.in_ok-outcome.ensures.take,
)
