use Rattle.kb_stepref.proofs.LookLaws.{look_is}
use Rattle.kb_stepref.proofs.look.look_at.Goals as goal

pub returns : goal.returns
returns c =
    look_is c.args.world.now c.args.bounds.now c.args.state.now c.taken_up-turn.result c.field_taken-field.result c.in_ok-question.question c.taken_up-turn.ensures.found c.taken_up-turn.ensures.turn
    c.field_taken-field.ensures.read c.in_ok-question.ensures
