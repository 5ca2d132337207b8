use Rattle.std.proofs.Common.{◌≡◌, length, nat_lt, not, true}
use Rattle.std.specs.List.{list_all, list_any}
use Rattle.kb_world.specs.Calls.{is_callable}
use Rattle.kb_world.specs.Receivers.{called_below, receivers_in}
use Rattle.kb_world.proofs.world.World.is_any_class_uncallable.Given as goal

abbrev pub invariant-loop-rest : goal.invariant-loop-rest
invariant-loop-rest l =
    (list_all (λ n. nat_lt n (length l.self.classes)) l.rest ≡ true)
    × (list_any (λ found. not (is_callable l.self found)) (called_below l.self l.owner l.method.0 l.rest)
    ≡ list_any (λ found. not (is_callable l.self found)) (called_below l.self l.owner l.method.0 (receivers_in l.self)))

abbrev pub decreases-loop-rest : goal.decreases-loop-rest
decreases-loop-rest l = length l.rest
