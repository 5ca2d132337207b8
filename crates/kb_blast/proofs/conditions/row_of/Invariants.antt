use Rattle.std.proofs.Common.{◌≡◌, ◌++◌}
use Rattle.kb_blast.proofs.conditions.row_of.Given as goal

abbrev pub invariant-loop-number : goal.invariant-loop-number
invariant-loop-number l = l.row ++ l.number-iterator ≡ l.words.entries
