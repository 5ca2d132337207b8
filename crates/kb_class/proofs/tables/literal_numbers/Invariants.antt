use Rattle.std.proofs.Common.{◌≡◌, filter_map, take}
use Rattle.kb_class.specs.Tables.{literal_index_of}
use Rattle.kb_class.proofs.tables.literal_numbers.Given as goal

abbrev pub invariant-loop-entry : goal.invariant-loop-entry
invariant-loop-entry l = l.numbers ≡ filter_map (literal_index_of l.file.pool) (take l.entry-index l.file.pool)
