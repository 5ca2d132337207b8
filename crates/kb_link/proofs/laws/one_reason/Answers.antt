use Rattle.kb_link.proofs.OneWorld.{one_refusal}
use Rattle.kb_link.proofs.laws.one_reason.Goals as goal

pub returns : goal.returns
returns c = λ given one other p q first second. one_refusal given one other p q first second
