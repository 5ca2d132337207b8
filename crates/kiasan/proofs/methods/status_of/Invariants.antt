use Rattle.std.proofs.Common.{◌≡◌, length}
use Rattle.kb_drive.specs.Counts.{is_partial}
use Rattle.kiasan.proofs.methods.status_of.Given as goal

abbrev pub invariant-loop-rest : goal.invariant-loop-rest
invariant-loop-rest l = is_partial l.rest ≡ is_partial l.leaves

abbrev pub decreases-loop-rest : goal.decreases-loop-rest
decreases-loop-rest l = length l.rest
