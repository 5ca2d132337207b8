use Rattle.std.proofs.Common.{◌↔◌, length}
use Rattle.kb_picture.specs.Shapes.{IsSuch}
use Rattle.kb_picture.specs.Tables.{EachPair}
use Rattle.kb_picture.proofs.instance.are_such.Given as goal

abbrev pub invariant-loop-left : goal.invariant-loop-left
invariant-loop-left l = EachPair (IsSuch l.heap) l.left l.rest ↔ EachPair (IsSuch l.heap) l.objects l.places

abbrev pub decreases-loop-left : goal.decreases-loop-left
decreases-loop-left l = length l.left
