use Rattle.kb_trail.proofs.ChangeLaws.{leads_back}
use Rattle.kb_trail.proofs.laws.undoing_leads_back.Goals as goal

pub returns : goal.returns
returns g c = λ before low changes inside may. leads_back low before changes inside may
