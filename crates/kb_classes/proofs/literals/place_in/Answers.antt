use Rattle.kb_classes.proofs.LiteralLaws.{place_is}
use Rattle.kb_classes.proofs.literals.place_in.Goals as goal

pub returns : goal.returns
returns c = place_is c.args.literals.now c.args.text.now c.place_of.result c.requires c.place_of.ensures
