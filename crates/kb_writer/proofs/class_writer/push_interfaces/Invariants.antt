use Rattle.std.proofs.Common.{◌≡◌, ◌++◌, length}
use Rattle.std.specs.List.{AllByRecursion, flat_map}
use Rattle.kb_writer.specs.Numbers.{u2}
use Rattle.kb_writer.specs.Files.{FitsIndex, table}
use Rattle.kb_writer.proofs.class_writer.push_interfaces.Given as goal

abbrev pub invariant-loop-rest : goal.invariant-loop-rest
invariant-loop-rest l = record {
  bytes : l.into.items ++ flat_map u2 l.rest ≡ l.fn.into.items ++ table u2 l.interfaces;
  numbers : AllByRecursion FitsIndex l.rest → AllByRecursion FitsIndex l.interfaces;
}

abbrev pub decreases-loop-rest : goal.decreases-loop-rest
decreases-loop-rest l = length l.rest
