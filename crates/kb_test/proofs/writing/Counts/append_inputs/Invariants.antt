use Rattle.std.proofs.Common.{◌≡◌, ◌++◌, ◌+◌, length, take}
use Rattle.kb_grammar.specs.Lines.{lines_text}
use Rattle.kb_test.specs.Scripts.{in_lines}
use Rattle.kb_test_lines.specs.Lines.{texts_of}
use Rattle.kb_test.specs.Writing.{listeds_of}
use Rattle.kb_test.proofs.writing.Counts.append_inputs.Given as goal

abbrev pub invariant-loop-rest : goal.invariant-loop-rest
invariant-loop-rest l = record {
  text : l.into.items ++ lines_text (texts_of (in_lines l.number (listeds_of l.self.inputs l.self.literals l.rest)))
      ≡ l.fn.into.items ++ lines_text (texts_of (in_lines 0 (listeds_of l.self.inputs l.self.literals l.objects)));
  kept : take (length l.fn.into.items) l.into.items ≡ l.fn.into.items;
  numbered : l.number + length l.rest ≡ length l.objects;
}

abbrev pub decreases-loop-rest : goal.decreases-loop-rest
decreases-loop-rest l = length l.rest
