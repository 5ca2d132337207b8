use Rattle.kb_picture.proofs.ExampleLaws.{examples_are_formed}
use Rattle.kb_picture.proofs.laws.examples_are_formed.Goals as goal

pub returns : goal.returns
returns c = examples_are_formed
