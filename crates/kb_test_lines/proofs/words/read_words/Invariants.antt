use Rattle.std.proofs.Common.{length}
use Rattle.kb_test_lines.proofs.WordLists.{AreReadSoFar}
use Rattle.kb_test_lines.proofs.words.read_words.Given as goal

abbrev pub invariant-loop-others : goal.invariant-loop-others
invariant-loop-others l = AreReadSoFar l.words l.rest l.text

abbrev pub decreases-loop-others : goal.decreases-loop-others
decreases-loop-others l = length l.rest
