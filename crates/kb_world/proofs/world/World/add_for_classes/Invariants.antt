use Rattle.std.proofs.Common.{◌≡◌, length, nat_lt, true}
use Rattle.std.specs.List.{filter_map, list_all}
use Rattle.kb_classes.specs.World.{methods_in}
use Rattle.kb_world.specs.Calls.{if_code}
use Rattle.kb_world.specs.Receivers.{called_below, receivers_in}
use Rattle.kb_world.specs.Walks.{with_all}
use Rattle.kb_world.proofs.world.World.add_for_classes.Given as goal

abbrev pub invariant-loop-rest : goal.invariant-loop-rest
invariant-loop-rest l =
    (list_all (λ n. nat_lt n (length l.self.classes)) l.rest ≡ true) × (l.found.all ≡ length (methods_in l.self.classes))
    × (with_all l.found (filter_map (if_code l.self) (called_below l.self l.owner l.method.0 l.rest))
    ≡ with_all l.fn.found (filter_map (if_code l.self) (called_below l.self l.owner l.method.0 (receivers_in l.self))))

abbrev pub decreases-loop-rest : goal.decreases-loop-rest
decreases-loop-rest l = length l.rest
