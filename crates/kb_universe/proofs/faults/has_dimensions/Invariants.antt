use Rattle.std.proofs.Common.{◌≡◌, ◌+◌, ◌≤◌}
use Rattle.kb_names.specs.Types.{shape_of}
use Rattle.kb_universe.proofs.faults.has_dimensions.Given as goal

-- as many dimensions are left as are still asked for
abbrev pub invariant-loop-left : goal.invariant-loop-left
invariant-loop-left l = (l.left ≤ l.count) × ((shape_of l.inner).dims + l.count ≡ (shape_of l.of).dims + l.left)

abbrev pub decreases-loop-left : goal.decreases-loop-left
decreases-loop-left l = l.left
