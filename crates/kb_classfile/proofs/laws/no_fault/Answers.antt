use Rattle.kb_classfile.proofs.ClassLaws.{spelled_has_none, none_is_spelled}
use Rattle.kb_classfile.proofs.laws.no_fault.Goals as goal

pub returns-clause-spelled : goal.returns-clause-spelled
returns-clause-spelled c = λ file bytes s. spelled_has_none file bytes s

pub returns-clause-free : goal.returns-clause-free
returns-clause-free c = λ bytes h. none_is_spelled bytes h
