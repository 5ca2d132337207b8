use Rattle.std.proofs.Common.{take}
use Rattle.std.specs.List.{AllZip}
use Rattle.kb_texts.specs.Texts.{Keeps}
use Rattle.kb_numbers.specs.Pools.{HasNumber}
use Rattle.kb_numbers.proofs.pool.text_row.Given as goal

abbrev pub invariant-loop-entry : goal.invariant-loop-entry
invariant-loop-entry l = record {
  each : AllZip (HasNumber l.texts) (take l.entry-index l.pool) l.row.items;
  keeps : Keeps l.fn.texts l.texts;
}
