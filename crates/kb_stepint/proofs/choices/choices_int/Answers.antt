use Rattle.kb_ways.proofs.TakeLaws.{reached_terms}
use Rattle.kb_stepint.proofs.choices.choices_int.Goals as goal

pub look_at-look-requires : goal.look_at-look-requires
look_at-look-requires c = reached_terms c.args.world.now c.args.state.now c.requires.reached
