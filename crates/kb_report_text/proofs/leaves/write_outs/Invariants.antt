use Rattle.std.proofs.Common.{◌≡◌, ◌++◌, drop}
use Rattle.kb_path_words.specs.Lines.{spaced}
use Rattle.kb_path_words.specs.Words.{out_text}
use Rattle.kb_report_text.proofs.leaves.write_outs.Given as goal

abbrev pub invariant-loop-out : goal.invariant-loop-out
invariant-loop-out l = l.initial.text ++ spaced out_text l.outs ≡ l.text ++ spaced out_text (drop l.out-index l.outs)
