use Rattle.kb_test.proofs.Format.{if_taken}
use Rattle.kb_test.proofs.reading.TestTextsLineFormat.read_line.Goals as goal

pub returns : goal.returns
returns c = if_taken c.args.self.now.literals c.args.front c.args.line.now c.take_text.result c.take_text.ensures
