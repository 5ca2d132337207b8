use Rattle.kb_lazy.proofs.FitLaws.{fitting_object}
use Rattle.kb_lazy.proofs.laws.objects_fit.Goals as goal

pub returns : goal.returns
returns c = fitting_object
