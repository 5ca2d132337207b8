use Rattle.kb_code.proofs.Tables.{some_is_looked_at}
use Rattle.kb_code.proofs.name.op_name.Goals as goal

pub returns-clause-some : goal.returns-clause-some
returns-clause-some c = some_is_looked_at c.name_of.result c.args.op c.name_of.ensures
