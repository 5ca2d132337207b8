use Rattle.kb_stepref.proofs.MeasureLaws.{gets_on}
use Rattle.kb_stepref.proofs.laws.reference_steps_get_on.Goals as goal

pub returns : goal.returns
returns c = λ world bounds state choice range at offered. gets_on world bounds state choice at
