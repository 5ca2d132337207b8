use Rattle.kb_stepint.proofs.OnlyLaws.{only_way_when}
use Rattle.kb_stepint.proofs.laws.int_steps_without_choice_add_no_condition.Goals as goal

pub returns : goal.returns
returns c = λ world bounds state at. only_way_when world bounds state
