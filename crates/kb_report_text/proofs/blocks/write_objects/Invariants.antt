use Rattle.std.proofs.Common.{◌≡◌, ◌++◌, drop}
use Rattle.kb_grammar.specs.Lines.{lines_text}
use Rattle.kb_path_words.specs.Lines.{numbered_lines}
use Rattle.kb_report_text.specs.Blocks.{obj_line}
use Rattle.kb_report_text.proofs.blocks.write_objects.Given as goal

abbrev pub invariant-loop-number : goal.invariant-loop-number
invariant-loop-number l = l.initial.text ++ lines_text (numbered_lines (obj_line l.world l.objects) 0 l.objects) ≡ l.text ++ lines_text (numbered_lines (obj_line l.world l.objects) l.number (drop l.number l.objects))
