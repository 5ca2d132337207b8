use Rattle.std.proofs.Common.{◌≡◌, take, map}
use Rattle.kb_stated.specs.Stated.{stated_object}
use Rattle.kb_stated.proofs.stated.made.Given as goal

abbrev pub invariant-loop-object : goal.invariant-loop-object
invariant-loop-object l = l.made ≡ map (stated_object l.state.picture.locs) (take l.object-index l.state.made)
