use Rattle.std.proofs.Common.{◌≡◌, length}
use Rattle.std.specs.List.{list_any}
use Rattle.kb_resolution.specs.LeftOut.{is_left_out}
use Rattle.kb_resolution.proofs.left_out.is_any_left_out.Given as goal

abbrev pub invariant-loop-rest : goal.invariant-loop-rest
invariant-loop-rest l = list_any is_left_out l.rest ≡ list_any is_left_out l.types

abbrev pub decreases-loop-rest : goal.decreases-loop-rest
decreases-loop-rest l = length l.rest
