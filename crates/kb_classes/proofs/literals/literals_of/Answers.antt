use Rattle.kb_classes.proofs.LiteralLaws.{literals_are}
use Rattle.kb_classes.proofs.literals.literals_of.Goals as goal

pub returns : goal.returns
returns c = literals_are c.args.classes.now c.in_ok-texts.texts.items c.set_of.result (rw (← c.as_slice.ensures.same) c.in_ok-texts.ensures) c.set_of.ensures.rises c.set_of.ensures.same
