use Rattle.std.proofs.Common.{[], length}
use Rattle.kb_classes.specs.Mentions.{HasLiteral}
use Rattle.kb_classes.proofs.LiteralLaws.{Goes}
use Rattle.kb_classes.proofs.literals.texts_of.Given as goal

abbrev pub invariant-loop-rest : goal.invariant-loop-rest
invariant-loop-rest l = Goes HasLiteral [] l.texts.items l.classes l.rest

abbrev pub decreases-loop-rest : goal.decreases-loop-rest
decreases-loop-rest l = length l.rest
