use Rattle.kb_world.proofs.ReachLaws.{refuses}
use Rattle.kb_world.proofs.world.World.reach.Goals as goal

pub returns-in-Err-clause-refused : goal.returns-in-Err-clause-refused
returns-in-Err-clause-refused c = refuses c.args.self.now c.args.target.now c.in-Some.id c.in-Err.refusal c.in-Some.ensures.found c.in-Err.ensures.refused
