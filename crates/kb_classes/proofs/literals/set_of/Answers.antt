use Rattle.kb_classes.proofs.LiteralLaws.{contains_of, has_of}
use Rattle.kb_classes.proofs.literals.set_of.Goals as goal

pub returns-in-Ok-clause-same : goal.returns-in-Ok-clause-same
returns-in-Ok-clause-same c text = (
  λ has. has_of c.args.texts.items text ((c.in-Ok.ensures.set.same text).0 (contains_of c.in-Ok.set text has)),
  λ has. has_of c.in-Ok.set text ((c.in-Ok.ensures.set.same text).1 (contains_of c.args.texts.items text has)),
)
