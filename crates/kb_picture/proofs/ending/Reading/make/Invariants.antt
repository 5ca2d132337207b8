use Rattle.std.proofs.Common.{◌≡◌, ◌++◌, length, map}
use Rattle.kb_picture.specs.Endings.{made_object}
use Rattle.kb_picture.specs.Readings.{as_read}
use Rattle.kb_picture.proofs.ending.Reading.make.Given as goal

abbrev pub invariant-loop-rest : goal.invariant-loop-rest
invariant-loop-rest l = l.heap.objects ++ map (made_object (as_read l.self)) l.rest ≡ l.fn.heap.objects ++ map (made_object (as_read l.self)) l.made

abbrev pub decreases-loop-rest : goal.decreases-loop-rest
decreases-loop-rest l = length l.rest
