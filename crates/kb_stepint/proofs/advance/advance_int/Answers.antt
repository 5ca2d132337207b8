use Rattle.std.proofs.Common.{◌≡◌, Some, refl, sym, ap, ◌∙◌}
use Rattle.kb_ways.proofs.TakeLaws.{reached_terms}
use Rattle.kb_stepint.specs.Choices.{choices_of}
use Rattle.kb_stepint.specs.Questions.{offered_by}
use Rattle.kb_stepint.proofs.OnlyLaws.{chosen_not_only}
use Rattle.kb_stepint.proofs.advance.advance_int.Goals as goal

pub look_at-look-requires : goal.look_at-look-requires
look_at-look-requires c = reached_terms c.args.world.now c.args.state.now c.requires.reached

-- the next step is one of ints
pub take_told-requires-clause-at : goal.take_told-requires-clause-at
take_told-requires-clause-at c = record { reached = c.requires.reached; next = c.requires.int }

pub returns-in_ok-choices-in-Some-clause-advanced : goal.returns-in_ok-choices-in-Some-clause-advanced
returns-in_ok-choices-in-Some-clause-advanced c =
    let offered : choices_of c.args.world.now c.args.state.now c.args.bounds.now ≡ offered_by c.args.state.now (Some c.in-Some.question) =
    c.look_at-look.ensures.offered ∙ ap (offered_by c.args.state.now) c.in-Some.is in
    (refl, c.in_ok-choices-in-Some.ensures ∙ sym offered, λ is. chosen_not_only c.args.state.now c.in-Some.question (sym offered ∙ is))

pub returns-in_ok-outcome-in-None-clause-advanced : goal.returns-in_ok-outcome-in-None-clause-advanced
returns-in_ok-outcome-in-None-clause-advanced c = (c.look_at-look.ensures.offered ∙ ap (offered_by c.args.state.now) c.in-None.is, c.in_ok-outcome-in-None.ensures.take)
