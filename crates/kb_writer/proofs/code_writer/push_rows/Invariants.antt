use Rattle.std.proofs.Common.{◌≡◌, ◌++◌, length}
use Rattle.std.specs.List.{AllByRecursion, flat_map}
use Rattle.kb_writer.specs.Files.{FitsHandler, handler_bytes}
use Rattle.kb_writer.proofs.code_writer.push_rows.Given as goal

abbrev pub invariant-loop-rest : goal.invariant-loop-rest
invariant-loop-rest l = record {
  bytes : l.into.items ++ flat_map handler_bytes l.rest ≡ l.fn.into.items ++ flat_map handler_bytes l.handlers;
  numbers : AllByRecursion FitsHandler l.rest → AllByRecursion FitsHandler l.handlers;
}

abbrev pub decreases-loop-rest : goal.decreases-loop-rest
decreases-loop-rest l = length l.rest
