use Rattle.kb_classfile.proofs.FaultsOfFiles.{front_is_short, no_magic_is_short}
use Rattle.kb_classfile.proofs.laws.cut_short.Goals as goal

pub returns-clause-front : goal.returns-clause-front
returns-clause-front c = λ file front back s some. front_is_short file front back s some

pub returns-clause-first : goal.returns-clause-first
returns-clause-first c = λ bytes few. no_magic_is_short bytes few
