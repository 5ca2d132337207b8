use Rattle.std.proofs.Common.{◌≡◌, take}
use Rattle.kb_numbers.specs.declared.pairs.Pair.{Pair}
use Rattle.kb_numbers.specs.Pairs.{first_place, place_told}
use Rattle.kb_numbers.proofs.pairs.first_places.Given as goal

abbrev pub invariant-loop-place : goal.invariant-loop-place
invariant-loop-place l = (pair : Pair) → place_told l.table pair ≡ first_place (take l.place l.pairs) pair
