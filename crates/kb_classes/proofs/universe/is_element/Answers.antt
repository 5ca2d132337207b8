use Rattle.std.proofs.Common.{◌≡◌, [], ◌∷◌, ◌++◌, IsSome, true, refl}
use Rattle.kb_names.specs.Shape.{bool_base, int_base}
use Rattle.kb_classes.specs.World.{number_in}
use Rattle.kb_classes.proofs.UniverseReading.{class_element, class_back}
use Rattle.kb_classes.proofs.universe.is_element.Goals as goal

pub returns-then-is_letter : goal.returns-then-is_letter
returns-then-is_letter c = (λ t. (bool_base, tt, c.is_letter.ensures.0 c.if-is_letter.true), λ h. refl)

pub returns-then-is_letter-2 : goal.returns-then-is_letter-2
returns-then-is_letter-2 c = (λ t. (int_base, tt, c.is_letter-2.ensures.0 c.if-is_letter-2.true), λ h. refl)

pub returns-in-Some : goal.returns-in-Some
returns-in-Some c =
    let classes = c.args.classes.now in
    let name = c.in-Some.name.now in
    let there : c.args.text.now ≡ 76 ∷ (name ++ 59 ∷ []) = (c.name_in.ensures name).0 (rw c.in-Some.is refl) in (
      λ t. class_element classes c.args.text.now name there (rw (← c.number_of.ensures, ← c.is_some.ensures) t),
      λ h. (let some : IsSome (number_in classes name) = class_back classes c.args.text.now name there h in rw (c.is_some.ensures, c.number_of.ensures) some),
    )
