use Rattle.kb_trail.proofs.TrailLaws.{first_decides}
use Rattle.kb_trail.proofs.laws.first_entry_decides.Goals as goal

pub returns : goal.returns
returns g c = λ entries cells place inside. first_decides entries cells place inside
