use Rattle.kiasan.proofs.OneReply.{one_reply, sample_reply}
use Rattle.kiasan.proofs.WorkerLaws.{workers_alike}
use Rattle.kiasan.proofs.top.words_have_one_reply.Goals as goal

pub returns-clause-words : goal.returns-clause-words
returns-clause-words c = one_reply

pub returns-clause-sample : goal.returns-clause-sample
returns-clause-sample c = sample_reply

pub returns-clause-workers : goal.returns-clause-workers
returns-clause-workers c = workers_alike
