use Rattle.std.proofs.Common.{◌≡◌, List, [], append-nil, sym, subst}
use Rattle.std.specs.List.{AllZip}
use Rattle.kb_classfile.specs.declared.file.Field.{Field}
use Rattle.kb_class.specs.Loading.{IsFieldOf}
use Rattle.kb_class.proofs.Lists.{no_items}
use Rattle.kb_class.proofs.loading.fields_of.Goals as goal

pub returns : goal.returns
returns c =
    let none : c.loop-rest.rest.now ≡ [] = no_items c.loop-rest.rest.now c.in_default.len_below in
    let made = c.loop-rest.invariant.made [] (subst (λ (fields : List Field). AllZip (IsFieldOf c.args.file.now) fields []) (sym none) tt) in
    subst (AllZip (IsFieldOf c.args.file.now) c.args.file.now.fields) (append-nil c.loop-rest.infos) made
