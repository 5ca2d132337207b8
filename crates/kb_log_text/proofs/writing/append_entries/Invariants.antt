use Rattle.std.proofs.Common.{◌≡◌, ◌++◌, length, map, take}
use Rattle.kb_grammar.specs.Lines.{lines_text}
use Rattle.kb_log_text.specs.Lines.{learn_line}
use Rattle.kb_log_text.proofs.writing.append_entries.Given as goal

abbrev pub invariant-loop-rest : goal.invariant-loop-rest
invariant-loop-rest l =
    (l.initial.into.items ++ lines_text (map learn_line l.entries) ≡ l.into.items ++ lines_text (map learn_line l.rest))
    × (take (length l.initial.into.items) l.into.items ≡ l.initial.into.items)

abbrev pub decreases-loop-rest : goal.decreases-loop-rest
decreases-loop-rest l = length l.rest
