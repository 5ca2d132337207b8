use Rattle.kb_world.proofs.Settling.{settled_found, settled_more}
use Rattle.kb_world.proofs.world.World.check_use.Goals as goal

pub returns-then-has-clause-none : goal.returns-then-has-clause-none
returns-then-has-clause-none c = (c.requires.settled c.args.asked (c.has.ensures.0 c.if-has.true)).faultless

pub returns-then-has-clause-added : goal.returns-then-has-clause-added
returns-then-has-clause-added c = settled_found c.args.self.now c.args.found.now c.args.looked.now c.args.asked c.requires.settled (c.has.ensures.0 c.if-has.true)

pub returns-in-Ok-add-clause-settled : goal.returns-in-Ok-add-clause-settled
returns-in-Ok-add-clause-settled c =
    settled_more c.args.self.now c.args.found.now c.look_at.new.found c.args.looked.now c.add.new.self c.args.asked c.requires.settled c.in-Ok.ensures.none c.in-Ok.ensures.added c.in-Ok-add.ensures
