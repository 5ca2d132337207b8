use Rattle.std.proofs.Common.{sym, subst}
use Rattle.kb_names.specs.declared.types.ExactType.TheVariants as exact
use Rattle.kb_class.specs.Loading.{SpellsExact}
use Rattle.kb_class.specs.Tables.{IsSpelling}
use Rattle.kb_class.proofs.Spellings.{component_names}
use Rattle.kb_class.proofs.texts.ExactTypeSpelled.read.Goals as goal

pub returns-in_ok-type_of-in-Some : goal.returns-in_ok-type_of-in-Some
returns-in_ok-type_of-in-Some c =
    let is = c.in-Some.ensures.some in
    let type = c.in_ok-type_of-in-Some.field-0 in
    subst (SpellsExact (exact.Array type)) (sym is) (component_names c.in-Some.component.now type (subst (IsSpelling SpellsExact) is c.requires) c.in_ok-type_of-in-Some.ensures)
