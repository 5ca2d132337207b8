use Rattle.kb_stepref.proofs.LookLaws.{at_counts}
use Rattle.kb_stepref.proofs.take.take_ref.Goals as goal

pub look_at-requires : goal.look_at-requires
look_at-requires c = at_counts c.args.world.now c.args.state.now c.requires.at
