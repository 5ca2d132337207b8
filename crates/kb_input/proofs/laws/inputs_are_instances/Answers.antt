use Rattle.kb_input.proofs.InputLaws.{emitted_instance}
use Rattle.kb_input.proofs.laws.inputs_are_instances.Goals as goal

pub returns : goal.returns
returns c = emitted_instance
