use Rattle.kb_class.proofs.OneClass.{one_class_is}
use Rattle.kb_class.proofs.laws.one_class_of.Goals as goal

pub returns : goal.returns
returns c = λ id given one other s t. one_class_is id given one other s t
