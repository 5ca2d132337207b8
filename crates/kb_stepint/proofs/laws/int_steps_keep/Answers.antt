use Rattle.kb_stepint.proofs.AddedLaws.{adds}
use Rattle.kb_stepint.proofs.KeepLaws.{kept, reads}
use Rattle.kb_stepint.proofs.ReachedLaws.{has_input}
use Rattle.kb_stepint.proofs.laws.int_steps_keep.Goals as goal

pub returns-clause-kept : goal.returns-clause-kept
returns-clause-kept c = λ world bounds state choice at offered. kept world bounds state choice

pub returns-clause-picture : goal.returns-clause-picture
returns-clause-picture c = λ world bounds state choice at offered. has_input world bounds choice state at

pub returns-clause-compared : goal.returns-clause-compared
returns-clause-compared c = λ world bounds state choice at offered. adds world bounds state choice at.reached

pub returns-clause-read : goal.returns-clause-read
returns-clause-read c = λ world bounds state choice at offered. reads world bounds state choice
