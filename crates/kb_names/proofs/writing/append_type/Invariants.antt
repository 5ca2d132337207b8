use Rattle.std.proofs.Common.{◌≡◌, ◌++◌, length, take}
use Rattle.kb_names.specs.Types.{shape_of}
use Rattle.kb_names.specs.Descriptors.{type_text}
use Rattle.kb_names.proofs.writing.append_type.Given as goal

abbrev pub invariant-loop-base : goal.invariant-loop-base
invariant-loop-base l = record {
  written : l.into.items ++ type_text l.spelling l.base ≡ l.fn.into.items ++ type_text l.spelling l.of;
  base : (shape_of l.base).base ≡ (shape_of l.of).base;
  kept : take (length l.fn.into.items) l.into.items ≡ l.fn.into.items;
}

abbrev pub decreases-loop-base : goal.decreases-loop-base
decreases-loop-base l = (shape_of l.base).dims
