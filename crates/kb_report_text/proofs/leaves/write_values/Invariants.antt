use Rattle.std.proofs.Common.{◌≡◌, ◌++◌, drop}
use Rattle.kb_path_words.specs.Lines.{spaced}
use Rattle.kb_path_words.specs.Words.{value_text}
use Rattle.kb_report_text.proofs.leaves.write_values.Given as goal

abbrev pub invariant-loop-value : goal.invariant-loop-value
invariant-loop-value l = l.initial.text ++ spaced value_text l.values ≡ l.text ++ spaced value_text (drop l.value-index l.values)
