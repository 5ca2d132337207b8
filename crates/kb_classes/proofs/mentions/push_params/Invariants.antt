use Rattle.std.proofs.Common.{length}
use Rattle.kb_classes.specs.Mentions.{IsTextHeld}
use Rattle.kb_classes.proofs.LiteralLaws.{Goes}
use Rattle.kb_classes.proofs.mentions.push_params.Given as goal

abbrev pub invariant-loop-rest : goal.invariant-loop-rest
invariant-loop-rest l = Goes IsTextHeld l.fn.texts.items l.texts.items l.params l.rest

abbrev pub decreases-loop-rest : goal.decreases-loop-rest
decreases-loop-rest l = length l.rest
