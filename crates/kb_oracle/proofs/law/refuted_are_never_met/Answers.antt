use Rattle.kb_oracle.proofs.AnswerLaws.{never-met}
use Rattle.kb_oracle.proofs.law.refuted_are_never_met.Goals as goal

pub returns : goal.returns
returns c = never-met
