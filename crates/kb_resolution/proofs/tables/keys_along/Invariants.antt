use Rattle.std.proofs.Common.{◌≡◌, ◌++◌, ◌-◌, length, reverse, take}
use Rattle.std.specs.List.{flat_map}
use Rattle.kb_resolution.specs.Tables.{keys_along, keys_at}
use Rattle.kb_resolution.proofs.tables.keys_along.Given as goal

abbrev pub invariant-loop-back : goal.invariant-loop-back
invariant-loop-back l =
    l.keys.items ++ flat_map (keys_at l.linked.classes l.numbers.classes.items) (reverse (take (length l.chain - l.back) l.chain)) ≡ keys_along l.linked.classes l.numbers.classes.items l.chain
