use Rattle.kb_classfile.proofs.ClassLaws.{spells_one}
use Rattle.kb_classfile.proofs.laws.one_class.Goals as goal

pub returns : goal.returns
returns c = λ one other bytes s t. spells_one one other bytes s t
