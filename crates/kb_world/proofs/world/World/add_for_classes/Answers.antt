use Rattle.std.proofs.Common.{◌≡◌, ℕ, List, length, nat_lt, true, sym, ap, subst}
use Rattle.std.specs.List.{filter_map, list_all}
use Rattle.kb_world.specs.Calls.{if_code}
use Rattle.kb_world.specs.Receivers.{called_below}
use Rattle.kb_world.specs.Walks.{with_all}
use Rattle.kb_world.proofs.Inside.{selected_told}
use Rattle.kb_world.proofs.ReceiverNumbers.{receivers_inside}
use Rattle.kb_world.proofs.world.World.add_for_classes.Goals as goal

pub add_method-requires-clause-method : goal.add_method-requires-clause-method
add_method-requires-clause-method c = selected_told c.args.self.now _ c.args.method.0 c.select.result c.select.ensures

pub loop-rest-init : goal.loop-rest-init
loop-rest-init c =
    let world = c.args.self.now in (
      subst (λ (ns : List ℕ). list_all (λ n. nat_lt n (length world.classes)) ns ≡ true) (sym c.receivers-rest.ensures.receivers) (receivers_inside world),
      c.requires.all,
      ap (λ (ns : List ℕ). with_all c.args.found.now (filter_map (if_code world) (called_below world c.args.owner c.args.method.0 ns))) c.receivers-rest.ensures.receivers,
    )
