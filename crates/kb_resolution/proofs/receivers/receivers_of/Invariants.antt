use Rattle.std.proofs.Common.{◌≡◌, ◌++◌, filter_map, length}
use Rattle.kb_resolution.specs.Lookup.{class_number}
use Rattle.kb_resolution.proofs.receivers.receivers_of.Given as goal

abbrev pub invariant-loop-rest : goal.invariant-loop-rest
invariant-loop-rest l = l.row ++ filter_map (class_number l.linked) l.rest ≡ filter_map (class_number l.linked) l.types

abbrev pub decreases-loop-rest : goal.decreases-loop-rest
decreases-loop-rest l = length l.rest
