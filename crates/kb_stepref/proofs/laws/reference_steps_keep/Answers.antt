use Rattle.kb_stepref.proofs.ComparedLaws.{compared}
use Rattle.kb_stepref.proofs.KeepLaws.{kept}
use Rattle.kb_stepref.proofs.ReachedLaws.{has_input}
use Rattle.kb_stepref.proofs.SeenLaws.{read}
use Rattle.kb_stepref.proofs.laws.reference_steps_keep.Goals as goal

pub returns-clause-kept : goal.returns-clause-kept
returns-clause-kept c = λ world bounds state choice range at offered. kept world bounds state choice at

pub returns-clause-picture : goal.returns-clause-picture
returns-clause-picture c = λ world bounds state choice range at offered. has_input world bounds state choice range at offered

pub returns-clause-compared : goal.returns-clause-compared
returns-clause-compared c = λ world bounds state choice range at offered. compared world bounds state choice range at offered

pub returns-clause-read : goal.returns-clause-read
returns-clause-read c = λ world bounds state choice range at offered. read world bounds state choice range at offered
