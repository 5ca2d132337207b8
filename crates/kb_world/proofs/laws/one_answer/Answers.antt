use Rattle.kb_world.proofs.ReachLaws.{one_refusal, refused_or_accepted}
use Rattle.kb_world.proofs.laws.one_answer.Goals as goal

pub returns-clause-refusal : goal.returns-clause-refusal
returns-clause-refusal c = λ world linked target one other a b no none. one_refusal world linked target one other a b no none

pub returns-clause-accepted : goal.returns-clause-accepted
returns-clause-accepted c = λ world linked target refusal id a other found accepted. refused_or_accepted world linked target refusal id a other found accepted
