use Rattle.std.proofs.Common.{subst}
use Rattle.kb_classfile.specs.declared.file.ClassFile.{ClassFile}
use Rattle.kb_class.specs.Given.{given_of}
use Rattle.kb_class.specs.Loading.{AreMethodsOf}
use Rattle.kb_class.proofs.LoadLaws.{sound, own_named, parent_named, has_interfaces, is_class, is_indexed}
use Rattle.kb_class.proofs.loaded.LoadedClass.of_file.Goals as goal

pub named_of-requires-clause-own : goal.named_of-requires-clause-own
named_of-requires-clause-own c = rw c.get.ensures (own_named (given_of c.args.file c.args.listings.items) c.requires.given c.requires.rules)

pub named_of-requires-clause-above : goal.named_of-requires-clause-above
named_of-requires-clause-above c = rw c.get.ensures (parent_named (given_of c.args.file c.args.listings.items) c.requires.given c.requires.rules)

pub members_of-requires-clause-sound : goal.members_of-requires-clause-sound
members_of-requires-clause-sound c = rw c.get-2.ensures (sound (given_of c.args.file c.args.listings.items) c.requires.given c.requires.rules)

pub members_of-requires-clause-described : goal.members_of-requires-clause-described
members_of-requires-clause-described c = rw (c.get-2.ensures, c.as_slice.ensures) (rw c.get.ensures at c.in_ok-named.ensures.kinds)

pub members_of-requires-clause-listed : goal.members_of-requires-clause-listed
members_of-requires-clause-listed c = rw c.get-2.ensures c.requires.given.listed

pub invariant_of-result : goal.invariant_of-result
invariant_of-result c =
    let given = given_of c.args.file c.args.listings.items in
    let named = c.in_ok-named.named in
    let members = c.in_ok-members.members in
    let own = rw c.get.ensures at c.in_ok-named.ensures.name in
    let above = rw c.get.ensures at c.in_ok-named.ensures.parent in
    let types = rw c.get.ensures at c.in_ok-named.ensures.types in
    let kinds = rw c.get.ensures at c.in_ok-named.ensures.kinds in
    let fields = rw c.get-2.ensures at c.in_ok-members.ensures.fields in
    let methods = subst (λ (file : ClassFile). AreMethodsOf c.args.id.0 file file.methods c.args.listings.items members.methods) c.get-2.ensures c.in_ok-members.ensures.methods in
    rw c.get-3.ensures (
      has_interfaces given c.requires.given c.requires.rules,
      is_indexed given c.requires.given c.requires.rules c.args.id.0 named.name named.parent members.fields members.methods named.types named.kinds own above types kinds fields methods,
    )

pub returns : goal.returns
returns c =
    let given = given_of c.args.file c.args.listings.items in
    let named = c.in_ok-named.named in
    let members = c.in_ok-members.members in
    let own = rw c.get.ensures at c.in_ok-named.ensures.name in
    let above = rw c.get.ensures at c.in_ok-named.ensures.parent in
    let types = rw c.get.ensures at c.in_ok-named.ensures.types in
    let kinds = rw c.get.ensures at c.in_ok-named.ensures.kinds in
    let fields = rw c.get-2.ensures at c.in_ok-members.ensures.fields in
    let methods = subst (λ (file : ClassFile). AreMethodsOf c.args.id.0 file file.methods c.args.listings.items members.methods) c.get-2.ensures c.in_ok-members.ensures.methods in
    rw c.get-3.ensures (is_class given c.requires.given c.requires.rules c.args.id.0 named.name named.parent members.fields members.methods named.types named.kinds own above types kinds fields methods)
