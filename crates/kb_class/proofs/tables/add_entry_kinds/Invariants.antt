use Rattle.std.proofs.Common.{◌≡◌, ◌++◌, filter_map, take}
use Rattle.kb_class.specs.Tables.{kind_index_of}
use Rattle.kb_class.proofs.tables.add_entry_kinds.Given as goal

abbrev pub invariant-loop-entry : goal.invariant-loop-entry
invariant-loop-entry l = l.numbers ≡ l.fn.numbers ++ filter_map kind_index_of (take l.entry-index l.pool)
