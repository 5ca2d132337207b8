use Rattle.kb_world.proofs.Inside.{special_at}
use Rattle.kb_world.proofs.world.World.is_for_special.Goals as goal

pub method_of-requires : goal.method_of-requires
method_of-requires c = special_at c.args.self.now c.args.class.0 c.args.entry c.in-Some.selected.0 c.in-Some.ensures
