use Rattle.kb_stepref.proofs.FollowLaws.{follows}
use Rattle.kb_stepref.proofs.OneLaws.{one}
use Rattle.kb_stepref.proofs.laws.reference_steps_simulate.Goals as goal

pub returns-clause-one : goal.returns-clause-one
returns-clause-one c = λ world bounds state range at. one world bounds state at

pub returns-clause-outcome : goal.returns-clause-outcome
returns-clause-outcome c = λ world bounds state choice range at offered. follows world bounds state choice range at offered
