use Rattle.std.proofs.Common.{◌≡◌, ◌++◌, ◌+◌, ◌≤◌, drop, string_bytes}
use Rattle.kb_dimacs_text.specs.Texts.{all_placed, value_words}
use Rattle.kb_dimacs_text.proofs.texts.write_values.Given as goal

abbrev pub invariant-loop-place : goal.invariant-loop-place
invariant-loop-place l = record {
  text : string_bytes l.initial.text ++ all_placed 1 (value_words 1 l.bits) ≡ string_bytes l.text ++ all_placed l.column (value_words (l.place + 1) (drop l.place l.bits));
  column : l.column ≤ 78;
}
