use Rattle.std.proofs.Common.{◌≡◌, ◌+◌, ◌<◌, ◌^◌}
use Rattle.kb_names.specs.Types.{shape_of}
use Rattle.kb_numbers.proofs.parts.element_of.Given as goal

abbrev pub invariant-loop-inner : goal.invariant-loop-inner
invariant-loop-inner l = (l.dims + (shape_of l.inner).dims ≡ (shape_of l.of).dims) × (l.dims < 2 ^ 32) × ((shape_of l.inner).base ≡ (shape_of l.of).base)

abbrev pub decreases-loop-inner : goal.decreases-loop-inner
decreases-loop-inner l = (shape_of l.inner).dims
