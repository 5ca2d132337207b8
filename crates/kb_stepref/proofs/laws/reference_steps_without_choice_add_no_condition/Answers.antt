use Rattle.kb_stepref.proofs.KeepLaws.{only_when}
use Rattle.kb_stepref.proofs.laws.reference_steps_without_choice_add_no_condition.Goals as goal

pub returns : goal.returns
returns c = λ world bounds state range at. only_when world bounds state
