use Rattle.kb_grammar.proofs.ReadLaws.{behind_read}
use Rattle.kb_path_words.specs.Words.{out_text}
use Rattle.kb_path_words.specs.Ranges.{OutFits}
use Rattle.kb_path_words.proofs.reading_lines.out_behind.Goals as goal

pub returns : goal.returns
returns c = behind_read OutFits out_text c.args.front.now c.in_ok-behind.field-0.now c.args.line.now c.read_out.result c.in_ok-behind.ensures c.read_out.ensures
