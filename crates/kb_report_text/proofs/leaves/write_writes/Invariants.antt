use Rattle.std.proofs.Common.{◌≡◌, ◌++◌, drop, map}
use Rattle.kb_grammar.specs.Lines.{lines_text}
use Rattle.kb_report_text.specs.Blocks.{set_line}
use Rattle.kb_report_text.proofs.leaves.write_writes.Given as goal

abbrev pub invariant-loop-write : goal.invariant-loop-write
invariant-loop-write l = l.initial.text ++ lines_text (map (set_line l.world l.objects) l.writes) ≡ l.text ++ lines_text (map (set_line l.world l.objects) (drop l.write-index l.writes))
