use Rattle.std.proofs.Common.{List, IfSome, sym, subst}
use Rattle.kb_numbers.specs.declared.parts.Part.{Part}
use Rattle.kb_numbers.specs.Types.{HasPart}
use Rattle.kb_numbers.proofs.PartLaws.{missing_part, found_part, part_at}
use Rattle.kb_numbers.proofs.parts.Parts.number.Goals as goal

pub returns-in_err-place-clause-whole : goal.returns-in_err-place-clause-whole
returns-in_err-place-clause-whole c = λ number has.
    let here : HasPart c.self.inside.set.keys c.args.part number = subst (λ (ps : List Part). HasPart ps c.args.part number) (sym c.self.view_is) has in
    absurd (missing_part c.self.inside.set.keys c.args.part number here c.in_err-place.ensures.found)

pub returns-clause-found : goal.returns-clause-found
returns-clause-found c =
    subst (λ (ps : List Part). IfSome c.number_of_place.result (HasPart ps c.args.part)) c.self.view_is
    (part_at c.self.inside.set.keys c.args.part c.in_ok-place.place c.in_ok-place.ensures.index c.number_of_place.result c.number_of_place.ensures.some c.number_of_place.ensures.fits)

pub returns-clause-whole : goal.returns-clause-whole
returns-clause-whole c = λ number has.
    let here : HasPart c.self.inside.set.keys c.args.part number = subst (λ (ps : List Part). HasPart ps c.args.part number) (sym c.self.view_is) has in
    found_part c.self.inside.set.keys c.args.part c.self.invariant number here c.in_ok-place.place c.in_ok-place.ensures.index c.number_of_place.result c.number_of_place.ensures.some c.number_of_place.ensures.none
