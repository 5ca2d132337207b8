use Rattle.std.proofs.Common.{ap, ◌∙◌}
use Rattle.kb_numbers.specs.Members.{MemberNumbers}
use Rattle.kb_numbers.specs.Pairs.{first_place}
use Rattle.kb_numbers.proofs.class_numbers.ClassNumbers.field_place.Goals as goal

pub returns : goal.returns
returns c = c.copied.ensures ∙ c.get.ensures.value ∙ c.self.invariant.1 c.args.pair ∙ ap (λ (n : MemberNumbers). first_place n.fields c.args.pair) c.self.view_is
