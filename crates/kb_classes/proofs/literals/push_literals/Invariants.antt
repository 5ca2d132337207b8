use Rattle.kb_classes.specs.Mentions.{IsFoundText}
use Rattle.kb_classes.proofs.LiteralLaws.{Goes}
use Rattle.kb_classes.proofs.literals.push_literals.Given as goal

abbrev pub invariant-loop-literal : goal.invariant-loop-literal
invariant-loop-literal l = Goes IsFoundText l.fn.texts.items l.texts.items l.fn.literals.items l.literal-iterator.rest.items
