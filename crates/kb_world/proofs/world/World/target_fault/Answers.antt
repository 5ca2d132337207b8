use Rattle.kb_world.proofs.Inside.{class_there}
use Rattle.kb_world.proofs.world.World.target_fault.Goals as goal

pub static_fault-requires : goal.static_fault-requires
static_fault-requires c = class_there c.args.self.now c.method_of-method.ensures.linked c.args.id.0 c.method_of-method.result.now c.method_of-method.ensures.there
