use Rattle.std.proofs.Common.{List, length}
use Rattle.kb_names.specs.declared.types.ExactType.{ExactType}
use Rattle.kb_classes.proofs.UniverseReading.{Pushed}
use Rattle.kb_classes.proofs.universe.push_arrays.Given as goal

abbrev pub invariant-loop-rest : goal.invariant-loop-rest
invariant-loop-rest l = (after : List ExactType) → Pushed l.universe l.rest after → Pushed l.fn.universe l.arrays after

abbrev pub decreases-loop-rest : goal.decreases-loop-rest
decreases-loop-rest l = length l.rest
