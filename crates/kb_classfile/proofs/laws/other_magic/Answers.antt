use Rattle.kb_classfile.proofs.FaultsOfFiles.{magic_told, is_magic}
use Rattle.kb_classfile.proofs.laws.other_magic.Goals as goal

pub returns : goal.returns
returns c = λ bytes. ((λ h. magic_told bytes h), (λ m. is_magic bytes m))
