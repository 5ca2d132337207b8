use Rattle.kb_link.proofs.OneUniverse.{one_world_is}
use Rattle.kb_link.proofs.laws.one_world.Goals as goal

pub returns : goal.returns
returns c = λ given one other p q. one_world_is given one other p q
