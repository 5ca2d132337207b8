use Rattle.std.proofs.Common.{◌≡◌, ℕ, List, length, nat_lt, not, true, sym, ap, subst}
use Rattle.std.specs.List.{list_all, list_any}
use Rattle.kb_world.specs.Calls.{is_callable}
use Rattle.kb_world.specs.Receivers.{called_below}
use Rattle.kb_world.proofs.Inside.{selected_told}
use Rattle.kb_world.proofs.ReceiverNumbers.{receivers_inside}
use Rattle.kb_world.proofs.world.World.is_any_class_uncallable.Goals as goal

pub is_callable-requires : goal.is_callable-requires
is_callable-requires c = selected_told c.args.self.now _ c.args.method.0 c.select.result c.select.ensures

pub loop-rest-init : goal.loop-rest-init
loop-rest-init c =
    let world = c.args.self.now in (
      subst (λ (ns : List ℕ). list_all (λ n. nat_lt n (length world.classes)) ns ≡ true) (sym c.receivers-rest.ensures.receivers) (receivers_inside world),
      ap (λ (ns : List ℕ). list_any (λ found. not (is_callable world found)) (called_below world c.args.owner c.args.method.0 ns)) c.receivers-rest.ensures.receivers,
    )
