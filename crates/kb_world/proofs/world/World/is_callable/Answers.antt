use Rattle.kb_world.proofs.Inside.{class_there}
use Rattle.kb_world.proofs.world.World.is_callable.Goals as goal

pub is_callable_method-requires : goal.is_callable_method-requires
is_callable_method-requires c = class_there c.args.self.now c.method_of.ensures.linked c.in-Some.method.0 c.method_of.result.now c.method_of.ensures.there
