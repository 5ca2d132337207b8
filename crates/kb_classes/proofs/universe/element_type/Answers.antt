use Rattle.std.proofs.Common.{◌≡◌, [], ◌∷◌, ◌++◌, refl, ap, ◌∙◌}
use Rattle.kb_names.specs.declared.types.JType.TheVariants as types
use Rattle.kb_classes.proofs.UniverseReading.{class_read}
use Rattle.kb_classes.proofs.universe.element_type.Goals as goal

pub returns-in_ok-shared_name-in-Some : goal.returns-in_ok-shared_name-in-Some
returns-in_ok-shared_name-in-Some c base simple is =
    let name = c.in-Some.name.now in
    let there : c.args.text.now ≡ 76 ∷ (name ++ 59 ∷ []) = (c.name_in.ensures name).0 (rw c.in-Some.is refl) in
    ap types.Class c.in_ok-shared_name-in-Some.ensures ∙ class_read c.args.text.now name there base simple is
