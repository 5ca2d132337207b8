use Rattle.kb_test.proofs.Format.{starts}
use Rattle.kb_test.proofs.reading.TestTextsLineFormat.start.Goals as goal

pub returns : goal.returns
returns c = starts c.args.self.now.literals c.new.result c.new.ensures
