use Rattle.std.proofs.Common.{◌≡◌, ◌++◌, drop}
use Rattle.kb_log_cut.specs.Cutting.{marked_entries}
use Rattle.kb_log_cut.proofs.cutting.Numbering.marked_entries.Given as goal

abbrev pub invariant-loop-number : goal.invariant-loop-number
invariant-loop-number l = l.kept ++ marked_entries l.self l.number (drop l.number l.entries) ≡ marked_entries l.self 0 l.entries
