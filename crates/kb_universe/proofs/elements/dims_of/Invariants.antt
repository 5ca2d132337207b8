use Rattle.std.proofs.Common.{◌≡◌, ◌+◌, ◌≤◌, min}
use Rattle.kb_names.specs.Types.{shape_of}
use Rattle.kb_universe.proofs.elements.dims_of.Given as goal

abbrev pub invariant-loop-inner : goal.invariant-loop-inner
invariant-loop-inner l = (l.dims ≤ 4294967295) × (min (l.dims + (shape_of l.inner).dims) 4294967295 ≡ min (shape_of l.of).dims 4294967295)

abbrev pub decreases-loop-inner : goal.decreases-loop-inner
decreases-loop-inner l = (shape_of l.inner).dims
