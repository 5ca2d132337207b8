use Rattle.kb_class.proofs.LiteralLaws.{literals_spelled}
use Rattle.kb_class.proofs.loading.literals_of.Goals as goal

pub table_of-requires : goal.table_of-requires
table_of-requires c = rw (c.as_slice.ensures, c.in_ok-numbers.ensures) (literals_spelled c.args.file.now.pool)
