use Rattle.kb_test.proofs.Written.{numbered}
use Rattle.kb_test.proofs.writing.is_numbered.Goals as goal

pub returns-in-None : goal.returns-in-None
returns-in-None c = λ _. numbered c.args.heap.now.objects c.in-None.ensures
