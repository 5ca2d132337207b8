use Rattle.kb_oracle.proofs.AnswerLaws.{not-refuted}
use Rattle.kb_oracle.proofs.law.models_are_not_refuted.Goals as goal

pub returns : goal.returns
returns c = not-refuted
