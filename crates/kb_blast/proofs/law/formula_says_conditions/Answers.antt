use Rattle.kb_blast.proofs.Saying.{says}
use Rattle.kb_blast.proofs.law.formula_says_conditions.Goals as goal

pub returns : goal.returns
returns c = λ q fit. says q fit
