use Rattle.kb_class.proofs.MemberLaws.{fields_told, methods_told}
use Rattle.kb_class.proofs.loading.members_of.Goals as goal

pub fields_of-requires : goal.fields_of-requires
fields_of-requires c = rw c.as_slice.ensures (fields_told c.args.file.now c.requires.rules c.in_ok-names.names c.in_ok-names.ensures c.args.kinds.now c.requires.described)

pub methods_of-requires-clause-told : goal.methods_of-requires-clause-told
methods_of-requires-clause-told c =
    rw c.as_slice-2.ensures (methods_told c.args.file.now c.requires.rules c.in_ok-names.names c.in_ok-names.ensures c.args.kinds.now c.requires.described c.requires.sound)
