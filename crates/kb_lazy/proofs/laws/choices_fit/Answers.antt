use Rattle.kb_lazy.proofs.FitLaws.{fitting_choice}
use Rattle.kb_lazy.proofs.laws.choices_fit.Goals as goal

pub returns : goal.returns
returns c = fitting_choice
