use Rattle.kb_world.proofs.Inside.{class_there}
use Rattle.kb_world.proofs.world.World.method_fault.Goals as goal

pub initialiser_fault-requires : goal.initialiser_fault-requires
initialiser_fault-requires c = class_there c.args.self.now c.method_of-info.ensures.linked c.args.method.0 c.method_of-info.result.now c.method_of-info.ensures.there
