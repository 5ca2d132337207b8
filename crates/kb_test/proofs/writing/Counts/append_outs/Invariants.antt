use Rattle.std.proofs.Common.{◌≡◌, ◌++◌, ◌≤◌, ◌-◌, length, take, drop}
use Rattle.kb_grammar.specs.Lines.{lines_text}
use Rattle.kb_test.specs.Scripts.{out_lines}
use Rattle.kb_test_lines.specs.Lines.{texts_of}
use Rattle.kb_test.specs.Writing.{outs_of}
use Rattle.kb_test.proofs.Appending.{lists_of}
use Rattle.kb_test.proofs.writing.Counts.append_outs.Given as goal

abbrev pub invariant-loop-number : goal.invariant-loop-number
invariant-loop-number g l = record {
  text : l.into.items ++ lines_text (texts_of (out_lines l.number (lists_of l.self.inputs l.self.literals (drop l.number (take l.self.inputs (g.O.Objects.objects l.heap))))))
      ≡ l.fn.into.items ++ lines_text (texts_of (out_lines 0 (outs_of l.self.inputs l.self.literals (g.O.Objects.objects l.heap))));
  kept : take (length l.fn.into.items) l.into.items ≡ l.fn.into.items;
  within : l.number ≤ l.self.inputs;
}

abbrev pub decreases-loop-number : goal.decreases-loop-number
decreases-loop-number g l = l.self.inputs - l.number
