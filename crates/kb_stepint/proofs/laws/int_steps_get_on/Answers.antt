use Rattle.kb_stepint.proofs.MeasureLaws.{gets_on}
use Rattle.kb_stepint.proofs.laws.int_steps_get_on.Goals as goal

pub returns : goal.returns
returns c = λ world bounds state choice at offered. gets_on world bounds state choice
