use Rattle.std.proofs.Common.{◌≡◌, ◌++◌, length}
use Rattle.kb_stated.specs.Stated.{writes_from}
use Rattle.kb_stated.proofs.stated.writes.Given as goal

abbrev pub invariant-loop-rest : goal.invariant-loop-rest
invariant-loop-rest l = l.writes ++ writes_from l.state.picture.locs l.objects l.number l.rest ≡ writes_from l.state.picture.locs l.objects 0 l.state.cells

abbrev pub decreases-loop-rest : goal.decreases-loop-rest
decreases-loop-rest l = length l.rest
