use Rattle.std.proofs.Common.{◌≡◌, ◌++◌, length}
use Rattle.kb_classes.specs.Mentions.{platform_types}
use Rattle.kb_classes.proofs.universe.push_platform.Given as goal

abbrev pub invariant-loop-rest : goal.invariant-loop-rest
invariant-loop-rest l = l.universe ++ platform_types l.named l.rest ≡ l.fn.universe ++ platform_types l.named l.classes

abbrev pub decreases-loop-rest : goal.decreases-loop-rest
decreases-loop-rest l = length l.rest
