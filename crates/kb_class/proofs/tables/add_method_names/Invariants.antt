use Rattle.std.proofs.Common.{◌≡◌, ◌++◌, map, take}
use Rattle.kb_class.specs.Tables.{method_name_index}
use Rattle.kb_class.proofs.tables.add_method_names.Given as goal

abbrev pub invariant-loop-method : goal.invariant-loop-method
invariant-loop-method l = l.numbers ≡ l.fn.numbers ++ map method_name_index (take l.method-index l.methods)
