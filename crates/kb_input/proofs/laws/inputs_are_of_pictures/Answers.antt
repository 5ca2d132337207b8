use Rattle.kb_input.proofs.InputLaws.{emitted_of_picture}
use Rattle.kb_input.proofs.laws.inputs_are_of_pictures.Goals as goal

pub returns : goal.returns
returns c = emitted_of_picture
