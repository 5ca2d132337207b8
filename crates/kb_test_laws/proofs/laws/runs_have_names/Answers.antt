use Rattle.kb_test_laws.proofs.RunTexts.{runs_have_texts}
use Rattle.kb_test_laws.proofs.laws.runs_have_names.Goals as goal

pub returns : goal.returns
returns c = λ s id input linked names accepted typed. runs_have_texts s id linked names accepted input typed
