use Rattle.std.proofs.Common.{length}
use Rattle.kb_classes.specs.Mentions.{IsTextOfKind}
use Rattle.kb_classes.proofs.LiteralLaws.{Goes}
use Rattle.kb_classes.proofs.mentions.push_kinds.Given as goal

abbrev pub invariant-loop-rest : goal.invariant-loop-rest
invariant-loop-rest l = Goes IsTextOfKind l.fn.texts.items l.texts.items l.kinds l.rest

abbrev pub decreases-loop-rest : goal.decreases-loop-rest
decreases-loop-rest l = length l.rest
