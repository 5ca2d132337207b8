use Rattle.std.proofs.Common.{◌≡◌, Option, IfOk, sym, subst}
use Rattle.std.specs.Option.{option_map_or}
use Rattle.kb_ways.specs.declared.question.Question.{Question}
use Rattle.kb_ways.specs.Advancing.{only}
use Rattle.kb_stepref.specs.Choices.{alternatives}
use Rattle.kb_stepref.proofs.LookLaws.{at_counts, look_asks}
use Rattle.kb_stepref.proofs.choices.choices_ref.Goals as goal

pub look_at-requires : goal.look_at-requires
look_at-requires c = at_counts c.args.world.now c.args.state.now c.requires

pub offered-requires : goal.offered-requires
offered-requires c = look_asks c.args.world.now c.args.bounds.now c.args.state.now c.requires c.in_ok-look.look c.in_ok-look.ensures

pub returns : goal.returns
returns c =
    subst (λ (asks : Option Question). IfOk c.offered.result (λ choices. choices.items ≡ option_map_or (alternatives c.args.world.now c.args.state.now c.args.bounds.now) asks only))
    (sym c.in_ok-look.ensures.question) c.offered.ensures
