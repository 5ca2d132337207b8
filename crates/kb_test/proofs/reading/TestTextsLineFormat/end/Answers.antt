use Rattle.kb_test.proofs.Format.{if_whole}
use Rattle.kb_test.proofs.reading.TestTextsLineFormat.end.Goals as goal

pub returns : goal.returns
returns c = if_whole c.args.self.now.literals c.args.front c.whole_tests.result c.whole_tests.ensures
