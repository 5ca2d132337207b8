use Rattle.kb_path_words.proofs.ReadLaws.{cut_read}
use Rattle.kb_path_words.proofs.reading_lines.read_cut.Goals as goal

pub returns : goal.returns
returns c = cut_read c.args.line.now c.in_ok-behind.field-0.now c.read_bound.result c.in_ok-behind.ensures c.read_bound.ensures
