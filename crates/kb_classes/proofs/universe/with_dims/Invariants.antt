use Rattle.std.proofs.Common.{◌≡◌}
use Rattle.kb_names.specs.Shape.{Base}
use Rattle.kb_names.specs.Types.{base_type, arrays_of}
use Rattle.kb_classes.proofs.universe.with_dims.Given as goal

abbrev pub invariant-loop : goal.invariant-loop
invariant-loop l = (of : Base) → l.fn.base ≡ base_type of → l.of ≡ arrays_of l.counter of
