use Rattle.kb_world.proofs.Inside.{special_told}
use Rattle.kb_world.proofs.world.World.is_any_uncallable.Goals as goal

pub is_callable-requires : goal.is_callable-requires
is_callable-requires c = special_told c.args.self.now c.args.class.0 c.args.entry c.select_special.result c.select_special.ensures
