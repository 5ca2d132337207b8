use Rattle.kb_replay.proofs.OneAnswer.{one_bad_test, stopped_or_runnable, one_ids, one_replay}
use Rattle.kb_replay.proofs.laws.tests_have_one_answer.Goals as goal

pub returns-clause-stop : goal.returns-clause-stop
returns-clause-stop c = one_bad_test

pub returns-clause-apart : goal.returns-clause-apart
returns-clause-apart c = stopped_or_runnable

pub returns-clause-methods : goal.returns-clause-methods
returns-clause-methods c = one_ids

pub returns-clause-replayed : goal.returns-clause-replayed
returns-clause-replayed c = one_replay
