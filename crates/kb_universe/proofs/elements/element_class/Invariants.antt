use Rattle.std.proofs.Common.{◌≡◌}
use Rattle.kb_names.specs.Types.{shape_of}
use Rattle.kb_universe.proofs.elements.element_class.Given as goal

abbrev pub invariant-loop-element : goal.invariant-loop-element
invariant-loop-element l = (shape_of l.element).base ≡ (shape_of l.of).base

abbrev pub decreases-loop-element : goal.decreases-loop-element
decreases-loop-element l = (shape_of l.element).dims
