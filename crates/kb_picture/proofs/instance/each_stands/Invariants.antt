use Rattle.std.proofs.Common.{◌↔◌, length}
use Rattle.kb_picture.specs.Tables.{EachPair, StandsAt}
use Rattle.kb_picture.proofs.instance.each_stands.Given as goal

abbrev pub invariant-loop-left : goal.invariant-loop-left
invariant-loop-left l = EachPair (StandsAt l.objects) l.left l.rest ↔ EachPair (StandsAt l.objects) l.locs l.places

abbrev pub decreases-loop-left : goal.decreases-loop-left
decreases-loop-left l = length l.left
