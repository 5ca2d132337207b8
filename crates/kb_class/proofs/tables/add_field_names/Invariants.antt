use Rattle.std.proofs.Common.{◌≡◌, ◌++◌, map, take}
use Rattle.kb_class.specs.Tables.{field_name_index}
use Rattle.kb_class.proofs.tables.add_field_names.Given as goal

abbrev pub invariant-loop-field : goal.invariant-loop-field
invariant-loop-field l = l.numbers ≡ l.fn.numbers ++ map field_name_index (take l.field-index l.fields)
