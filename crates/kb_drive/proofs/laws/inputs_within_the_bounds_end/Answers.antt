use Rattle.kb_drive.proofs.CoveringLaws.{ends_within}
use Rattle.kb_drive.proofs.laws.inputs_within_the_bounds_end.Goals as goal

pub returns : goal.returns
returns c = λ world target bounds paths budget listed input covers decided correct within. ends_within world target bounds paths budget listed input covers decided correct within
