use Rattle.kb_dimacs_text.proofs.FrontLaws.{finished}
use Rattle.kb_dimacs_text.proofs.front.Front.finish.Goals as goal

pub returns-in-Behind : goal.returns-in-Behind
returns-in-Behind c = let h = c.in-Behind.is in rw h (finished c.in-Behind.body c.whole.result c.whole.ensures.some c.whole.ensures.none)
