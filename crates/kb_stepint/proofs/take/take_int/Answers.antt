use Rattle.kb_ways.proofs.TakeLaws.{reached_terms}
use Rattle.kb_stepint.proofs.take.take_int.Goals as goal

pub look_at-look-requires : goal.look_at-look-requires
look_at-look-requires c = reached_terms c.args.world.now c.args.state.now c.requires.reached

-- the next step is one of ints
pub take_told-requires-clause-at : goal.take_told-requires-clause-at
take_told-requires-clause-at c = record { reached = c.requires.reached; next = c.requires.int }
