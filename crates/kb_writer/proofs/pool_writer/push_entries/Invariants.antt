use Rattle.std.proofs.Common.{◌≡◌, ◌++◌, length}
use Rattle.std.specs.List.{AllByRecursion, flat_map}
use Rattle.kb_writer.specs.Files.{IsWritten, FitsEntry, entry_bytes}
use Rattle.kb_writer.proofs.pool_writer.push_entries.Given as goal

abbrev pub invariant-loop-rest : goal.invariant-loop-rest
invariant-loop-rest l = record {
  bytes : l.into.items ++ flat_map entry_bytes l.rest ≡ l.fn.into.items ++ flat_map entry_bytes l.entries;
  written : AllByRecursion IsWritten l.rest;
  numbers : AllByRecursion FitsEntry l.rest → AllByRecursion FitsEntry l.entries;
}

abbrev pub decreases-loop-rest : goal.decreases-loop-rest
decreases-loop-rest l = length l.rest
