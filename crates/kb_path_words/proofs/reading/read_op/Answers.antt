use Rattle.kb_path_words.proofs.ReadLaws.{op_read}
use Rattle.kb_path_words.proofs.reading.read_op.Goals as goal

pub returns : goal.returns
returns c = op_read c.args.word.now c.op_among.result (rw c.as_slice.ensures at c.op_among.ensures)
