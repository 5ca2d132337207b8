use Rattle.std.proofs.Common.{◌≡◌, map, take}
use Rattle.kb_numbers.specs.Pairs.{place_in}
use Rattle.kb_numbers.proofs.signatures.places_in.Given as goal

abbrev pub invariant-loop-pair : goal.invariant-loop-pair
invariant-loop-pair l = l.places.items ≡ map (place_in l.table) (take l.pair-index l.pairs)
