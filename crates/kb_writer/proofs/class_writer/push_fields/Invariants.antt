use Rattle.std.proofs.Common.{◌≡◌, ◌++◌, length}
use Rattle.std.specs.List.{AllByRecursion, flat_map}
use Rattle.kb_writer.specs.Files.{FitsField, field_bytes, table}
use Rattle.kb_writer.proofs.class_writer.push_fields.Given as goal

abbrev pub invariant-loop-rest : goal.invariant-loop-rest
invariant-loop-rest l = record {
  bytes : l.into.items ++ flat_map field_bytes l.rest ≡ l.fn.into.items ++ table field_bytes l.fields;
  numbers : AllByRecursion FitsField l.rest → AllByRecursion FitsField l.fields;
}

abbrev pub decreases-loop-rest : goal.decreases-loop-rest
decreases-loop-rest l = length l.rest
