use Rattle.step_rows.proofs.walk.tell_only.Goals as goal

pub returns : goal.returns
returns c = λ is. c.goes_on.ensures.stepping c.args.world.now c.args.state.now is c.requires
