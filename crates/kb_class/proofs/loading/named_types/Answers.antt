use Rattle.kb_class.proofs.MemberLaws.{types_spelled}
use Rattle.kb_class.proofs.loading.named_types.Goals as goal

pub table_of-requires : goal.table_of-requires
table_of-requires c = rw (c.as_slice-2.ensures, c.in_ok-numbers.ensures, c.as_slice.ensures) (types_spelled c.args.file.now c.requires)
