use Rattle.std.proofs.Common.{◌≡◌, ◌++◌, drop}
use Rattle.kb_grammar.specs.Lines.{lines_text}
use Rattle.kb_path_words.specs.Lines.{numbered_lines}
use Rattle.kb_report_text.specs.Blocks.{new_line}
use Rattle.kb_report_text.proofs.leaves.write_made.Given as goal

abbrev pub invariant-loop-number : goal.invariant-loop-number
invariant-loop-number l = l.initial.text ++ lines_text (numbered_lines new_line 0 l.made) ≡ l.text ++ lines_text (numbered_lines new_line l.number (drop l.number l.made))
