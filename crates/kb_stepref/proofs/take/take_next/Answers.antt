use Rattle.std.proofs.Common.{◌≡◌, IfOk, subst}
use Rattle.kb_frames.specs.declared.value.Outcome.{Outcome}
use Rattle.kb_ways.specs.Turns.{told}
use Rattle.kb_ways.specs.Ways.{Take}
use Rattle.kb_stepref.proofs.LookLaws.{look_ready, look_taken, look_untaken}
use Rattle.kb_stepref.proofs.take.take_next.Goals as goal

pub take_up-requires : goal.take_up-requires
take_up-requires c = look_ready c.args.world.now c.args.bounds.now c.args.state.now c.requires.at c.args.look.now c.requires.look c.in-Some.turn c.in-Some.is

pub returns-in-Some : goal.returns-in-Some
returns-in-Some c =
    subst (λ (take : Take). IfOk c.take_up.result (λ (outcome : Outcome). told c.take_up.new.state outcome ≡ take))
    (look_taken c.args.world.now c.args.bounds.now c.args.state.now c.requires.at c.args.look.now c.requires.look c.in-Some.turn c.in-Some.is) c.take_up.ensures

pub returns-in-None : goal.returns-in-None
returns-in-None c =
    subst (λ (take : Take). IfOk c.takes_none.result (λ (outcome : Outcome). told c.takes_none.new.state outcome ≡ take))
    (look_untaken c.args.world.now c.args.bounds.now c.args.state.now c.requires.at c.args.look.now c.requires.look c.in-None.is c.requires.nothing) c.takes_none.ensures
