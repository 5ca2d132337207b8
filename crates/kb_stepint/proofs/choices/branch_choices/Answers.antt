use Rattle.std.proofs.Common.{Bool, true, false, not, refl}
use Rattle.kb_picture.specs.declared.choice.Choice.{Choice}
use Rattle.kb_picture.specs.declared.choice.Choice.TheVariants.{Branch}
use Rattle.kb_ways.specs.Asked.{branch_condition, is_refuted}
use Rattle.kb_stepint.specs.Choices.{branch_conditions}
use Rattle.kb_stepint.proofs.ChoiceLaws.{two_asked}
use Rattle.kb_stepint.proofs.choices.branch_choices.Goals as goal

pub returns : goal.returns
returns c =
    let p : Choice → Bool = λ choice. not (is_refuted c.args.state.now (branch_conditions c.args.cond c.args.left c.args.right choice)) in
    two_asked c.args.state.now p (Branch false) (Branch true) (branch_condition c.args.cond c.args.left c.args.right false) (branch_condition c.args.cond c.args.left c.args.right true)
    c.branch_condition-not_taken.result c.branch_condition-taken.result c.new-choices.result.items c.offer.new.choices.items c.offer-2.new.choices.items
    c.new-choices.ensures.items c.branch_condition-not_taken.ensures c.branch_condition-taken.ensures refl refl c.in_ok-offer.ensures c.in_ok-offer-2.ensures
