use Rattle.kb_world.proofs.ReachLaws.{one_reached}
use Rattle.kb_world.proofs.laws.one_reached.Goals as goal

pub returns : goal.returns
returns c = λ world target one other a b. one_reached world target one other a b
