use Rattle.std.proofs.Common.{◌≡◌, Option, IfOk, IfSome, ap, subst}
use Rattle.kb_frames.specs.declared.value.Outcome.{Outcome}
use Rattle.kb_ways.specs.Turns.{led_by, told}
use Rattle.kb_ways.specs.Ways.{Take}
use Rattle.kb_stepref.specs.declared.fields.FieldAt.{FieldAt}
use Rattle.kb_stepref.specs.Looks.{IsReadBy}
use Rattle.kb_stepref.proofs.FieldReads.{read_choice}
use Rattle.kb_stepref.proofs.instructions.carry_out.Goals as goal

pub get_found-requires-clause-read : goal.get_found-requires-clause-read
get_found-requires-clause-read c =
    subst (λ (it : Option FieldAt). IfSome it (IsReadBy c.args.turn.now.world.now c.args.state.now c.args.turn.now.instr.now)) c.in-Some.is c.requires.read

pub returns-in-Some : goal.returns-in-Some
returns-in-Some c =
    subst (λ (take : Take). IfOk c.get_found.result (λ (outcome : Outcome). told c.get_found.new.state outcome ≡ take))
    (ap (led_by c.args.turn.now)
    (read_choice c.args.turn.now.world.now c.args.state.now c.args.choice.now c.args.turn.now.instr.now c.in-Some.at
    (subst (λ (it : Option FieldAt). IfSome it (IsReadBy c.args.turn.now.world.now c.args.state.now c.args.turn.now.instr.now)) c.in-Some.is c.requires.read)))
    c.get_found.ensures
