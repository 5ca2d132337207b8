use Rattle.std.proofs.Common.{◌≡◌}
use Rattle.kb_names.specs.Types.{shape_of}
use Rattle.kb_classes.specs.Subtypes.{type_fits}
use Rattle.kb_link.proofs.linked.Linked.type_fits.Given as goal

abbrev pub invariant-loop-below : goal.invariant-loop-below
invariant-loop-below l = type_fits l.self l.below l.above ≡ type_fits l.self l.low l.high

abbrev pub decreases-loop-below : goal.decreases-loop-below
decreases-loop-below l = (shape_of l.below).dims
