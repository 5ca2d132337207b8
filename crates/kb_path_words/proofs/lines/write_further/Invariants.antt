use Rattle.std.proofs.Common.{◌≡◌, ◌++◌, drop}
use Rattle.kb_path_words.specs.Lines.{further_decisions}
use Rattle.kb_path_words.proofs.lines.write_further.Given as goal

abbrev pub invariant-loop-decision : goal.invariant-loop-decision
invariant-loop-decision l = l.initial.text ++ further_decisions l.decisions ≡ l.text ++ further_decisions (drop l.decision-index l.decisions)
