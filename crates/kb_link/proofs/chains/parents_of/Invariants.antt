use Rattle.std.proofs.Common.{◌≡◌, map, take}
use Rattle.kb_classes.specs.World.{parent_in}
use Rattle.kb_link.proofs.chains.parents_of.Given as goal

abbrev pub invariant-loop-class : goal.invariant-loop-class
invariant-loop-class l = l.parents.items ≡ map (parent_in l.fn.classes) (take l.class-index l.class-items)
