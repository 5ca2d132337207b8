use Rattle.std.proofs.Common.{◌≡◌, ◌∙◌, ap, sym, true}
use Rattle.kb_chain.specs.Literal.{has}
use Rattle.kb_chain.specs.Propagation.{all_negated, others}
use Rattle.kb_chain.proofs.PropagationLaws.{negated_status, unit_status, open_status, none_open, one_open_in, one_open_others, all_negated_more, one_open_settled, two_open_settled, joined_has, joined_only}
use Rattle.kb_chain.proofs.propagation.examine.Goals as goal

pub insert-requires : goal.insert-requires
insert-requires c =
    c.requires c.in-Unit.literal
    (one_open_in (has c.args.trail.now.literals) c.args.clause.now c.in-Unit.literal (unit_status _ _ c.in-Unit.ensures.value)).0

pub returns-in-Negated-clause-negated : goal.returns-in-Negated-clause-negated
returns-in-Negated-clause-negated c =
    none_open (has c.args.trail.now.literals) c.args.clause.now (negated_status _ c.in-Negated.ensures.value)

pub returns-in_ok-insert-in-Unit-clause-settled : goal.returns-in_ok-insert-in-Unit-clause-settled
returns-in_ok-insert-in-Unit-clause-settled c =
    one_open_settled (has c.args.trail.now.literals) (has c.insert.new.self.literals) c.args.clause.now c.in-Unit.literal
    (unit_status _ _ c.in-Unit.ensures.value)
    (ap (λ z. has z c.in-Unit.literal) c.in_ok-insert-in-Unit.ensures.ok ∙ joined_has c.args.trail.now.literals c.in-Unit.literal)

pub returns-in_ok-insert-in-Unit-clause-least : goal.returns-in_ok-insert-in-Unit-clause-least
returns-in_ok-insert-in-Unit-clause-least c set closed includes l i =
    let one = unit_status _ _ c.in-Unit.ensures.value in
    let first : all_negated (has c.args.trail.now.literals) (others c.in-Unit.literal c.args.clause.now) ≡ true =
    one_open_others (has c.args.trail.now.literals) c.args.clause.now c.in-Unit.literal one in
    joined_only c.args.trail.now.literals c.in-Unit.literal set
    (closed c.in-Unit.literal (one_open_in (has c.args.trail.now.literals) c.args.clause.now c.in-Unit.literal one).0
    (all_negated_more (has c.args.trail.now.literals) set (others c.in-Unit.literal c.args.clause.now) includes first))
    includes l (ap (λ z. has z l) (sym c.in_ok-insert-in-Unit.ensures.ok) ∙ i)

pub returns-in-Open-clause-settled : goal.returns-in-Open-clause-settled
returns-in-Open-clause-settled c =
    let o = open_status _ c.in-Open.ensures.value in
    two_open_settled (has c.args.trail.now.literals) (has c.args.trail.now.literals) c.args.clause.now o.0 o.1 o.2 c.in-Open.ensures.ordered o.3
