use Rattle.std.proofs.Common.{◌≡◌, ◌++◌, length, map, take}
use Rattle.kb_grammar.specs.Lines.{lines_text}
use Rattle.kb_test_lines.specs.declared.lines.Line.TheVariants.{Arg}
use Rattle.kb_test_lines.specs.Lines.{texts_of}
use Rattle.kb_test.specs.Writing.{words_of}
use Rattle.kb_test.proofs.writing.Counts.append_args.Given as goal

abbrev pub invariant-loop-rest : goal.invariant-loop-rest
invariant-loop-rest l = record {
  text : l.into.items ++ lines_text (texts_of (map Arg (words_of l.self.inputs l.self.literals l.rest)))
      ≡ l.fn.into.items ++ lines_text (texts_of (map Arg (words_of l.self.inputs l.self.literals l.args)));
  kept : take (length l.fn.into.items) l.into.items ≡ l.fn.into.items;
}

abbrev pub decreases-loop-rest : goal.decreases-loop-rest
decreases-loop-rest l = length l.rest
