use Rattle.kb_world.proofs.Inside.{class_there}
use Rattle.kb_world.proofs.world.World.target_of.Goals as goal

pub name_of-requires : goal.name_of-requires
name_of-requires c = class_there c.args.self.now c.method_of-info.ensures.linked c.args.method.0 c.method_of-info.result.now c.method_of-info.ensures.there
