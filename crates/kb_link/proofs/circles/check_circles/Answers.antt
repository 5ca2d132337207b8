use Rattle.std.proofs.Common.{◌≡◌, ◌<◌, ℕ, subst, sym, ◌∙◌}
use Rattle.kb_order.specs.Order.{IsComplete, HasNoCircle, StandsOnCircle}
use Rattle.kb_classes.specs.Subtypes.{direct_supers}
use Rattle.kb_link.proofs.Above.{supers_complete}
use Rattle.kb_link.proofs.Circling.{circle_inside, circle_refuses}
use Rattle.kb_link.proofs.circles.check_circles.Goals as goal

pub order_of-requires : goal.order_of-requires
order_of-requires c = subst IsComplete (sym c.requires.direct) (supers_complete c.args.classes.now)

pub returns-in-None-clause-order : goal.returns-in-None-clause-order
returns-in-None-clause-order c =
    let same : c.in-Ok.order ≡ direct_supers c.args.classes.now = c.in-Ok.ensures ∙ c.requires.direct in
    (same, subst HasNoCircle same c.in-None.ensures)

pub circle-requires : goal.circle-requires
circle-requires c =
    let same : c.in-Ok.order ≡ direct_supers c.args.classes.now = c.in-Ok.ensures ∙ c.requires.direct in
    circle_inside c.args.classes.now c.in-Some.number (subst (λ direct. StandsOnCircle direct c.in-Some.number) same c.in-Some.ensures.0)

pub returns-in-Some-clause-refused : goal.returns-in-Some-clause-refused
returns-in-Some-clause-refused c =
    let same : c.in-Ok.order ≡ direct_supers c.args.classes.now = c.in-Ok.ensures ∙ c.requires.direct in
    circle_refuses c.args.classes.now c.in-Some.number c.circle.result c.requires.kept.0 c.requires.kept.1
    (subst (λ direct. StandsOnCircle direct c.in-Some.number) same c.in-Some.ensures.0)
    (subst (λ direct. (earlier : ℕ) → earlier < c.in-Some.number → StandsOnCircle direct earlier → ⊥) same c.in-Some.ensures.1)
    c.circle.ensures
