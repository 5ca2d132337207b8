use Rattle.std.proofs.Common.{◌≡◌, ◌++◌, length, take}
use Rattle.kb_test_lines.specs.Words.{words_text}
use Rattle.kb_test.specs.Writing.{words_of}
use Rattle.kb_test.proofs.writing.Counts.append_values.Given as goal

abbrev pub invariant-loop-rest : goal.invariant-loop-rest
invariant-loop-rest l = record {
  text : l.into.items ++ words_text (words_of l.self.inputs l.self.literals l.rest) ≡ l.fn.into.items ++ words_text (words_of l.self.inputs l.self.literals l.values);
  kept : take (length l.fn.into.items) l.into.items ≡ l.fn.into.items;
}

abbrev pub decreases-loop-rest : goal.decreases-loop-rest
decreases-loop-rest l = length l.rest
