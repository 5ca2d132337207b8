use Rattle.kb_link.proofs.OneWorld.{no_reason}
use Rattle.kb_link.proofs.laws.linked_or_refused.Goals as goal

pub returns : goal.returns
returns c = λ given world refusal linked refused. no_reason given world refusal linked refused
