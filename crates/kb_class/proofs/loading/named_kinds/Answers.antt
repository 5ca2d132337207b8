use Rattle.kb_class.proofs.MemberLaws.{kinds_spelled}
use Rattle.kb_class.proofs.loading.named_kinds.Goals as goal

pub table_of-requires : goal.table_of-requires
table_of-requires c = rw (c.as_slice.ensures, c.in_ok-numbers.ensures) (kinds_spelled c.args.file.now c.requires)
