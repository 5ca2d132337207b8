use Rattle.std.proofs.Common.{◌≡◌, ◌++◌, drop, map}
use Rattle.kb_grammar.specs.Lines.{lines_text}
use Rattle.kb_report_text.specs.Blocks.{arg_line}
use Rattle.kb_report_text.proofs.leaves.write_args.Given as goal

abbrev pub invariant-loop-value : goal.invariant-loop-value
invariant-loop-value l = l.initial.text ++ lines_text (map arg_line l.args) ≡ l.text ++ lines_text (map arg_line (drop l.value-index l.args))
