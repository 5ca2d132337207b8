use Rattle.std.proofs.Common.{◌≡◌, ◌++◌, length, map}
use Rattle.kb_picture.specs.Endings.{out_value}
use Rattle.kb_picture.specs.Readings.{as_read}
use Rattle.kb_picture.proofs.ending.Reading.values.Given as goal

abbrev pub invariant-loop-rest : goal.invariant-loop-rest
invariant-loop-rest l = l.values ++ map (out_value (as_read l.self)) l.rest ≡ map (out_value (as_read l.self)) l.outs

abbrev pub decreases-loop-rest : goal.decreases-loop-rest
decreases-loop-rest l = length l.rest
