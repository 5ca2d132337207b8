use Rattle.std.proofs.Common.{◌↔◌, length}
use Rattle.kb_picture.specs.Shapes.{HoldEach}
use Rattle.kb_picture.proofs.instance.hold_each.Given as goal

abbrev pub invariant-loop-rest : goal.invariant-loop-rest
invariant-loop-rest l = HoldEach l.input l.places l.rest ↔ HoldEach l.input l.places l.fn.seen

abbrev pub decreases-loop-rest : goal.decreases-loop-rest
decreases-loop-rest l = length l.rest
