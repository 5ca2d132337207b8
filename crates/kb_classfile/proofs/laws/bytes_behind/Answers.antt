use Rattle.kb_classfile.proofs.FaultsOfFiles.{extra_is, is_extra}
use Rattle.kb_classfile.proofs.laws.bytes_behind.Goals as goal

pub returns : goal.returns
returns c = λ at bytes. ((λ h. extra_is at bytes h), (λ x. is_extra at bytes x))
