use Rattle.kb_drive.proofs.EndLaws.{endings_there}
use Rattle.kb_drive.proofs.ReferenceEnds.{references_end}
use Rattle.kb_drive.proofs.laws.endings_state_what_is_there.Goals as goal

pub returns-clause-ints : goal.returns-clause-ints
returns-clause-ints c = endings_there

pub returns-clause-references : goal.returns-clause-references
returns-clause-references c = references_end
