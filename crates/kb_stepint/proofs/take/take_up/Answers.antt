use Rattle.std.proofs.Common.{◌≡◌, List, IfSome, sym, ap, subst, ◌∙◌}
use Rattle.kb_frames.specs.Lent.{begun}
use Rattle.kb_frames.specs.State.{State}
use Rattle.kb_ways.specs.declared.condition.Condition.{Condition}
use Rattle.kb_ways.specs.Asked.{all_asked}
use Rattle.kb_ways.specs.Needs.{HasTerms, IsFor}
use Rattle.kb_ways.proofs.TakeLaws.{asked_terms}
use Rattle.kb_ways.proofs.TurnLaws.{asked_is_for, begun_is_for}
use Rattle.kb_stepint.specs.Questions.{HasTermsOf, conditions_by}
use Rattle.kb_stepint.proofs.take.take_up.Goals as goal

pub ask_for-requires : goal.ask_for-requires
ask_for-requires c = subst (λ (s : State). IfSome c.args.question.now (HasTermsOf s.nodes)) (sym c.in_ok-begin.ensures) c.requires.asked

pub carry_out-requires-clause-terms : goal.carry_out-requires-clause-terms
carry_out-requires-clause-terms c =
    let asks : List Condition = conditions_by c.args.question.now c.args.choice.now in
    subst HasTerms (sym (c.in_ok-ask_for.ensures ∙ ap (λ (s : State). all_asked s asks) c.in_ok-begin.ensures))
    (asked_terms (begun c.args.turn.now.world.now c.args.state.now) asks c.requires.terms)

pub carry_out-requires-clause-stands : goal.carry_out-requires-clause-stands
carry_out-requires-clause-stands c =
    let asks : List Condition = conditions_by c.args.question.now c.args.choice.now in
    subst (IsFor c.args.turn.now) (sym (c.in_ok-ask_for.ensures ∙ ap (λ (s : State). all_asked s asks) c.in_ok-begin.ensures))
    (asked_is_for c.args.turn.now (begun c.args.turn.now.world.now c.args.state.now) asks (begun_is_for c.args.turn.now.world.now c.args.turn.now c.args.state.now c.requires.stands))
