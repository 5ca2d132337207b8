use Rattle.std.proofs.Common.{◌≡◌, ◌+◌}
use Rattle.kb_names.specs.Types.{shape_of, arrays_of}
use Rattle.kb_names.proofs.descriptors.arrays.Given as goal

abbrev pub invariant-loop : goal.invariant-loop
invariant-loop l = l.of ≡ arrays_of (l.counter + (shape_of l.fn.base).dims) (shape_of l.fn.base).base
