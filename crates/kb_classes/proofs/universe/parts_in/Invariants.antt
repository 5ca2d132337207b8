use Rattle.std.proofs.Common.{[], length}
use Rattle.kb_classes.specs.Mentions.{IsOwnPartOf}
use Rattle.kb_classes.proofs.LiteralLaws.{Goes}
use Rattle.kb_classes.proofs.universe.parts_in.Given as goal

abbrev pub invariant-loop-rest : goal.invariant-loop-rest
invariant-loop-rest l = Goes (IsOwnPartOf l.classes l.named) [] l.texts.items l.wholes l.rest

abbrev pub decreases-loop-rest : goal.decreases-loop-rest
decreases-loop-rest l = length l.rest
