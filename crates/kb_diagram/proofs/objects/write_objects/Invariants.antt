use Rattle.std.proofs.Common.{◌≡◌, ◌++◌, drop}
use Rattle.kb_grammar.specs.Lines.{lines_text}
use Rattle.kb_path_words.specs.Lines.{numbered_lines}
use Rattle.kb_diagram.specs.Diagram.{object_line}
use Rattle.kb_diagram.specs.Tables.{held_in}
use Rattle.kb_diagram.proofs.objects.write_objects.Given as goal

abbrev pub invariant-loop-number : goal.invariant-loop-number
invariant-loop-number l =
    l.initial.text ++ lines_text (numbered_lines (object_line l.world (held_in l.cells)) 0 l.objects) ≡ l.text ++ lines_text (numbered_lines (object_line l.world (held_in l.cells)) l.number (drop l.number l.objects))
