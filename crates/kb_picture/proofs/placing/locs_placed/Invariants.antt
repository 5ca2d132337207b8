use Rattle.std.proofs.Common.{◌≡◌, ℕ, List, ◌++◌, length, option_map}
use Rattle.kb_picture.specs.Places.{locs_placed}
use Rattle.kb_picture.proofs.placing.locs_placed.Given as goal

abbrev pub invariant-loop-rest : goal.invariant-loop-rest
invariant-loop-rest l = option_map (λ (more : List ℕ). l.places ++ more) (locs_placed l.input l.objects l.rest) ≡ locs_placed l.input l.objects l.locs

abbrev pub decreases-loop-rest : goal.decreases-loop-rest
decreases-loop-rest l = length l.rest
