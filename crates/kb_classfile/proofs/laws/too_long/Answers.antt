use Rattle.kb_classfile.proofs.FaultsOfFiles.{long_is, is_long}
use Rattle.kb_classfile.proofs.laws.too_long.Goals as goal

pub returns : goal.returns
returns c = λ bytes. ((λ h. long_is bytes h), (λ many. is_long bytes many))
