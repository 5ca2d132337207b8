use Rattle.std.proofs.Common.{[], length}
use Rattle.kb_classes.specs.Mentions.{IsTextGiven}
use Rattle.kb_classes.proofs.LiteralLaws.{Goes}
use Rattle.kb_classes.proofs.mentions.named_texts.Given as goal

abbrev pub invariant-loop-rest : goal.invariant-loop-rest
invariant-loop-rest l = Goes IsTextGiven [] l.texts.items l.classes l.rest

abbrev pub decreases-loop-rest : goal.decreases-loop-rest
decreases-loop-rest l = length l.rest
