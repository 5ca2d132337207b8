use Rattle.std.proofs.Common.{◌≡◌, ◌++◌, ◌+◌, ◌-◌, length, take, drop}
use Rattle.kb_grammar.specs.Lines.{lines_text}
use Rattle.kb_test.specs.Scripts.{new_lines}
use Rattle.kb_test_lines.specs.Lines.{texts_of}
use Rattle.kb_test.specs.Writing.{listeds_of, news_of}
use Rattle.kb_test.proofs.writing.Counts.append_news.Given as goal

abbrev pub invariant-loop-object : goal.invariant-loop-object
invariant-loop-object g l = record {
  text : l.into.items ++ lines_text (texts_of (new_lines l.number (listeds_of l.self.inputs l.self.literals (drop (l.before + l.number) (g.O.Objects.objects l.heap)))))
      ≡ l.fn.into.items ++ lines_text (texts_of (new_lines 0 (news_of l.self.inputs l.self.literals (g.O.Objects.objects l.heap))));
  kept : take (length l.fn.into.items) l.into.items ≡ l.fn.into.items;
}

abbrev pub decreases-loop-object : goal.decreases-loop-object
decreases-loop-object g l = length (g.O.Objects.objects l.heap) - (l.before + l.number)
