use Rattle.std.proofs.Common.{◌≡◌, ◌++◌, drop, map}
use Rattle.kb_grammar.specs.Lines.{lines_text}
use Rattle.kb_report_text.specs.Blocks.{when_line}
use Rattle.kb_report_text.proofs.blocks.write_conditions.Given as goal

abbrev pub invariant-loop-condition : goal.invariant-loop-condition
invariant-loop-condition l = l.initial.text ++ lines_text (map when_line l.when) ≡ l.text ++ lines_text (map when_line (drop l.condition-index l.when))
