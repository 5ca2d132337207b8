use Rattle.kb_drive.proofs.CoveringLaws.{none_throws}
use Rattle.kb_drive.proofs.laws.none_throws_within_the_bounds.Goals as goal

pub returns : goal.returns
returns c = λ world target bounds paths budget listed input covers decided none correct within object thrown. none_throws world target bounds paths budget listed input covers decided none correct within object thrown
