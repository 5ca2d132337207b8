use Rattle.std.proofs.Common.{length}
use Rattle.kb_path_words.proofs.ReadLaws.{AreReadBehind}
use Rattle.kb_path_words.proofs.reading_lines.read_further.Given as goal

abbrev pub invariant-loop-decision : goal.invariant-loop-decision
invariant-loop-decision l = AreReadBehind l.first l.decisions l.rest l.text

abbrev pub decreases-loop-decision : goal.decreases-loop-decision
decreases-loop-decision l = length l.rest
