use Rattle.std.proofs.Common.{◌≡◌, IfOk, subst}
use Rattle.kb_frames.specs.declared.value.Outcome.{Outcome}
use Rattle.kb_ways.specs.Turns.{told}
use Rattle.kb_ways.specs.Ways.{Take}
use Rattle.kb_stepint.proofs.LookLaws.{look_stands, look_taken, look_terms, look_untaken}
use Rattle.kb_stepint.proofs.take.read_or_take_up.Goals as goal

pub take_up-requires-clause-terms : goal.take_up-requires-clause-terms
take_up-requires-clause-terms c =
    look_terms c.args.world.now c.args.bounds.now c.args.state.now c.args.look.now c.requires.look c.in-Some.turn c.in-Some.is c.requires.at

pub take_up-requires-clause-stands : goal.take_up-requires-clause-stands
take_up-requires-clause-stands c = look_stands c.args.world.now c.args.bounds.now c.args.state.now c.args.look.now c.requires.look c.in-Some.turn c.in-Some.is

pub returns-in-Some : goal.returns-in-Some
returns-in-Some c =
    subst (λ (take : Take). IfOk c.take_up.result (λ (outcome : Outcome). told c.take_up.new.state outcome ≡ take))
    (look_taken c.args.world.now c.args.bounds.now c.args.state.now c.args.look.now c.requires.look c.in-Some.turn c.in-Some.is c.args.choice.now) c.take_up.ensures

pub returns-in-None : goal.returns-in-None
returns-in-None c =
    subst (λ (take : Take). IfOk c.read_or_end.result (λ (outcome : Outcome). told c.read_or_end.new.state outcome ≡ take))
    (look_untaken c.args.world.now c.args.bounds.now c.args.state.now c.args.look.now c.requires.look c.args.choice.now c.in-None.is) c.read_or_end.ensures

pub take_up-requires-clause-asked : goal.take_up-requires-clause-asked
take_up-requires-clause-asked c = c.requires.look.terms
