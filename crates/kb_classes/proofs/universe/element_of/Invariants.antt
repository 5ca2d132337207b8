use Rattle.std.proofs.Common.{◌≡◌, length}
use Rattle.kb_classes.specs.Mentions.{element_text}
use Rattle.kb_classes.proofs.universe.element_of.Given as goal

abbrev pub invariant-loop-rest : goal.invariant-loop-rest
invariant-loop-rest l = element_text l.rest ≡ element_text l.text

abbrev pub decreases-loop-rest : goal.decreases-loop-rest
decreases-loop-rest l = length l.rest
