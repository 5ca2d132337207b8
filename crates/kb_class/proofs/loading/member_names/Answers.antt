use Rattle.kb_class.proofs.MemberLaws.{names_spelled}
use Rattle.kb_class.proofs.loading.member_names.Goals as goal

pub table_of-requires : goal.table_of-requires
table_of-requires c = rw (c.as_slice.ensures, c.in_ok-numbers.ensures) (names_spelled c.args.file.now c.requires)
