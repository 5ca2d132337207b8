use Rattle.kb_stepint.proofs.LookLaws.{look_none, look_some}
use Rattle.kb_stepint.proofs.look.look_at.Goals as goal

pub returns-in-Some : goal.returns-in-Some
returns-in-Some c =
    look_some c.args.world.now c.args.bounds.now c.args.state.now c.in-Some.turn c.question_of-question.result c.in-Some.ensures.turn c.in-Some.ensures.found c.question_of-question.ensures.offered
    c.question_of-question.ensures.conditions c.question_of-question.ensures.terms

pub returns-in-None : goal.returns-in-None
returns-in-None c = look_none c.args.world.now c.args.bounds.now c.args.state.now c.in-None.ensures.found
