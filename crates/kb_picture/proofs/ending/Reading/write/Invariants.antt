use Rattle.std.proofs.Common.{◌≡◌, length, fold}
use Rattle.kb_picture.specs.Endings.{with_write}
use Rattle.kb_picture.specs.Readings.{as_read}
use Rattle.kb_picture.proofs.ending.Reading.write.Given as goal

abbrev pub invariant-loop-rest : goal.invariant-loop-rest
invariant-loop-rest l = fold (with_write (as_read l.self)) l.heap l.rest ≡ fold (with_write (as_read l.self)) l.fn.heap l.writes

abbrev pub decreases-loop-rest : goal.decreases-loop-rest
decreases-loop-rest l = length l.rest
