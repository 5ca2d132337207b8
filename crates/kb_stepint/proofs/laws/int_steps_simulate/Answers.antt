use Rattle.kb_stepint.proofs.OneLaws.{one}
use Rattle.kb_stepint.proofs.OutcomeLaws.{follows}
use Rattle.kb_stepint.proofs.laws.int_steps_simulate.Goals as goal

pub returns-clause-one : goal.returns-clause-one
returns-clause-one c = λ world bounds state at. one world bounds state at

pub returns-clause-outcome : goal.returns-clause-outcome
returns-clause-outcome c = λ world bounds state choice at offered. follows world bounds state choice at offered
