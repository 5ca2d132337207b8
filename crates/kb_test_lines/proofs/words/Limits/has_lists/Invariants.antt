use Rattle.std.proofs.Common.{◌≡◌, length}
use Rattle.std.specs.List.{list_all}
use Rattle.kb_test_lines.specs.Words.{words_below}
use Rattle.kb_test_lines.proofs.words.Limits.has_lists.Given as goal

abbrev pub invariant-loop-rest : goal.invariant-loop-rest
invariant-loop-rest l = list_all (words_below l.self) l.rest ≡ list_all (words_below l.self) l.lists

abbrev pub decreases-loop-rest : goal.decreases-loop-rest
decreases-loop-rest l = length l.rest
