use Rattle.kb_world.proofs.Inside.{special_told}
use Rattle.kb_world.proofs.world.World.add_for.Goals as goal

pub add_method-requires-clause-method : goal.add_method-requires-clause-method
add_method-requires-clause-method c = special_told c.args.self.now c.args.asked.class c.args.asked.entry c.select_special.result c.select_special.ensures
