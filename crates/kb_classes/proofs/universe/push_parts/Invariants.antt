use Rattle.std.proofs.Common.{◌≡◌, ◌++◌, length}
use Rattle.kb_classes.specs.Mentions.{own_parts}
use Rattle.kb_classes.proofs.universe.push_parts.Given as goal

abbrev pub invariant-loop-rest : goal.invariant-loop-rest
invariant-loop-rest l = l.texts.items ++ own_parts l.named l.rest ≡ l.fn.texts.items ++ own_parts l.named l.whole

abbrev pub decreases-loop-rest : goal.decreases-loop-rest
decreases-loop-rest l = length l.rest
