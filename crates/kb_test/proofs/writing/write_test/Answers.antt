use Rattle.kb_test.proofs.Written.{appended}
use Rattle.kb_test.proofs.writing.write_test.Goals as goal

pub returns-in-Ok-clause-ok : goal.returns-in-Ok-clause-ok
returns-in-Ok-clause-ok c =
    appended c.args.literals c.args.test.now c.requires (c.is_numbered.ensures c.if-not-is_numbered.false) c.args.into.now.items c.append_test.new.into.items c.in-Ok.ensures.ok
