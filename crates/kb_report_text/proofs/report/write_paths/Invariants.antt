use Rattle.std.proofs.Common.{◌≡◌, ◌++◌, drop}
use Rattle.std.specs.List.{flat_map}
use Rattle.kb_grammar.specs.Lines.{lines_text}
use Rattle.kb_report_text.specs.Blocks.{path_lines}
use Rattle.kb_report_text.proofs.report.write_paths.Given as goal

abbrev pub invariant-loop-path : goal.invariant-loop-path
invariant-loop-path l = l.initial.text ++ lines_text (flat_map (path_lines l.world) l.paths) ≡ l.text ++ lines_text (flat_map (path_lines l.world) (drop l.path-index l.paths))
