use Rattle.std.proofs.Common.{◌≡◌, ◌++◌, drop, map}
use Rattle.kb_grammar.specs.Lines.{lines_text}
use Rattle.kb_report_text.specs.Blocks.{see_line}
use Rattle.kb_report_text.proofs.blocks.write_slots.Given as goal

abbrev pub invariant-loop-slot : goal.invariant-loop-slot
invariant-loop-slot l = l.initial.text ++ lines_text (map (see_line l.world l.objects) l.seen) ≡ l.text ++ lines_text (map (see_line l.world l.objects) (drop l.slot-index l.seen))
