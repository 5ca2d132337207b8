use Rattle.kb_world.proofs.Inside.{class_there}
use Rattle.kb_world.proofs.world.World.check_method.Goals as goal

pub check_items-requires-clause-class : goal.check_items-requires-clause-class
check_items-requires-clause-class c = class_there c.args.self.now c.method_of-info.ensures.linked c.args.method.0 c.method_of-info.result.now c.method_of-info.ensures.there
