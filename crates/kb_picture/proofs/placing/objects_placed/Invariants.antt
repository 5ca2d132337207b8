use Rattle.std.proofs.Common.{◌≡◌, [], length}
use Rattle.kb_picture.specs.Places.{objects_placed}
use Rattle.kb_picture.proofs.placing.objects_placed.Given as goal

abbrev pub invariant-loop-rest : goal.invariant-loop-rest
invariant-loop-rest l = objects_placed l.input l.places l.rest ≡ objects_placed l.input [] l.objects

abbrev pub decreases-loop-rest : goal.decreases-loop-rest
decreases-loop-rest l = length l.rest
