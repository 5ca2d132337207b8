use Rattle.kb_classfile.proofs.FaultsOfFiles.{version_told, is_version}
use Rattle.kb_classfile.proofs.laws.other_version.Goals as goal

pub returns : goal.returns
returns c = λ major bytes. ((λ h. version_told major bytes h), (λ v. is_version major bytes v))
