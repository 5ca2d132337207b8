use Rattle.std.proofs.Common.{List, sym, ap, subst, ◌∙◌}
use Rattle.kb_texts.specs.Texts.{AreDistinct, Keeps}
use Rattle.kb_numbers.specs.declared.parts.Part.{Part}
use Rattle.kb_numbers.specs.Types.{with_part}
use Rattle.kb_numbers.proofs.PartLaws.{kept_more, distinct_more, number_there}
use Rattle.kb_numbers.proofs.parts.Parts.add.Goals as goal

pub invariant_of-self-2 : goal.invariant_of-self-2
invariant_of-self-2 c = subst AreDistinct (sym c.in_ok-place.ensures.keys) (distinct_more c.self.inside.set.keys c.args.part c.self.invariant)

pub invariant_of-self-in_default : goal.invariant_of-self-in_default
invariant_of-self-in_default c = subst AreDistinct (sym c.in_ok-place.ensures.keys) (distinct_more c.self.inside.set.keys c.args.part c.self.invariant)

pub returns-clause-parts : goal.returns-clause-parts
returns-clause-parts c = c.in_ok-place.ensures.keys ∙ ap (λ (ps : List Part). with_part ps c.args.part) c.self.view_is

pub returns-clause-number : goal.returns-clause-number
returns-clause-number c =
    number_there c.insert_full.new.self.keys c.args.part c.in_ok-place.ensures.stored.0 c.in_ok-place.place c.in-Some.number c.in_ok-place.ensures.stored.1 c.in_ok-place.ensures.stored.2 c.in-Some.ensures.some c.in-Some.ensures.fits

pub returns-clause-keeps : goal.returns-clause-keeps
returns-clause-keeps c =
    subst (λ (before : List Part). Keeps before c.insert_full.new.self.keys) c.self.view_is
    (subst (Keeps c.self.inside.set.keys) (sym c.in_ok-place.ensures.keys) (kept_more c.self.inside.set.keys c.args.part))
