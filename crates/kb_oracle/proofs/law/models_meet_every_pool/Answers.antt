use Rattle.kb_oracle.proofs.AnswerLaws.{meets-pools}
use Rattle.kb_oracle.proofs.law.models_meet_every_pool.Goals as goal

pub returns : goal.returns
returns c = meets-pools
