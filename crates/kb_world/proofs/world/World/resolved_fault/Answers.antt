use Rattle.kb_world.proofs.Inside.{resolved_at}
use Rattle.kb_world.proofs.world.World.resolved_fault.Goals as goal

pub method_fault-requires-clause-method : goal.method_fault-requires-clause-method
method_fault-requires-clause-method c = resolved_at c.args.self.now c.args.class.0 c.args.entry c.in-Some.method.0 c.in-Some.ensures.there
