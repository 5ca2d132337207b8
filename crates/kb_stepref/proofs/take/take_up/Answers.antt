use Rattle.std.proofs.Common.{sym, subst}
use Rattle.kb_stepref.specs.Looks.{IsReady}
use Rattle.kb_stepref.proofs.take.take_up.Goals as goal

pub carry_out-requires : goal.carry_out-requires
carry_out-requires c = subst (IsReady c.args.turn.now c.args.field.now) (sym c.in_ok-begin.ensures) c.requires
