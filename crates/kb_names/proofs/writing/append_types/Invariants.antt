use Rattle.std.proofs.Common.{◌≡◌, ◌++◌, length, take}
use Rattle.std.specs.List.{flat_map}
use Rattle.kb_names.specs.Descriptors.{type_text, CanSpellTypes, AreTypes}
use Rattle.kb_names.proofs.writing.append_types.Given as goal

abbrev pub invariant-loop-rest : goal.invariant-loop-rest
invariant-loop-rest l = record {
  written : l.into.items ++ flat_map (type_text l.spelling) l.rest ≡ l.fn.into.items ++ flat_map (type_text l.spelling) l.types;
  are : (CanSpellTypes l.spelling l.rest → AreTypes l.spelling l.rest) → CanSpellTypes l.spelling l.types → AreTypes l.spelling l.types;
  kept : take (length l.fn.into.items) l.into.items ≡ l.fn.into.items;
}

abbrev pub decreases-loop-rest : goal.decreases-loop-rest
decreases-loop-rest l = length l.rest
