use Rattle.kb_asm_text.proofs.HeadLaws.{coded_read}
use Rattle.kb_asm_text.proofs.heads.read_method.Goals as goal

pub returns : goal.returns
returns c = coded_read c.args.words.now c.read_coded.result c.in_default.ensures c.read_coded.ensures
