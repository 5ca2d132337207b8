use Rattle.kb_replay.proofs.RunEnds.{run_ends, run_keeps_input}
use Rattle.kb_replay.proofs.laws.runs_end_as_tests.Goals as goal

pub returns-clause-ending : goal.returns-clause-ending
returns-clause-ending c = run_ends

pub returns-clause-heap : goal.returns-clause-heap
returns-clause-heap c = run_keeps_input
