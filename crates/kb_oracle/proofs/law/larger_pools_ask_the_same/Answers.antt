use Rattle.kb_oracle.proofs.Larger.{larger-ask-the-same}
use Rattle.kb_oracle.proofs.law.larger_pools_ask_the_same.Goals as goal

pub returns : goal.returns
returns c = larger-ask-the-same
