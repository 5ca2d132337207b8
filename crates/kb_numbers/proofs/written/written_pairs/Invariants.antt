use Rattle.std.proofs.Common.{take}
use Rattle.std.specs.List.{AllZip}
use Rattle.kb_texts.specs.Texts.{Keeps}
use Rattle.kb_numbers.specs.Numbers.{IsMethodPair}
use Rattle.kb_numbers.proofs.written.written_pairs.Given as goal

abbrev pub invariant-loop-method : goal.invariant-loop-method
invariant-loop-method l = record {
  each : AllZip (IsMethodPair l.texts) (take l.method-index l.methods) l.pairs.items;
  keeps : Keeps l.fn.texts l.texts;
}
