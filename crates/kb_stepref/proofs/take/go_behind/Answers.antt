use Rattle.std.proofs.Common.{◌≡◌, Option, IfOk, IfSome, sym, ap, subst}
use Rattle.kb_frames.specs.declared.value.Outcome.{Outcome}
use Rattle.kb_ways.specs.declared.turn.Turn.{Turn}
use Rattle.kb_ways.specs.Turns.{told}
use Rattle.kb_ways.specs.Ways.{Take}
use Rattle.kb_stepref.specs.Looks.{IsReady, behind}
use Rattle.kb_stepref.proofs.take.go_behind.Goals as goal

pub carry_out-requires : goal.carry_out-requires
carry_out-requires c = subst (λ (it : Option Turn). IfSome it (λ (turn : Turn). IsReady turn c.args.look.now.field c.args.state.now)) c.in-Some.is c.requires

pub returns-in-Some : goal.returns-in-Some
returns-in-Some c =
    subst (λ (take : Take). IfOk c.carry_out.result (λ (outcome : Outcome). told c.carry_out.new.state outcome ≡ take))
    (ap (λ (it : Option Turn). behind it c.args.state.now) (sym c.in-Some.is)) c.carry_out.ensures
