use Rattle.std.proofs.Common.{◌≡◌, ◌++◌, List, length}
use Rattle.kb_class.specs.Class.{Class}
use Rattle.kb_classes.specs.Rules.{HaveDifferentNames}
use Rattle.kb_classes.specs.Names.{HasNames}
use Rattle.kb_classes.proofs.classes.names_of.Given as goal

abbrev pub invariant-loop-rest : goal.invariant-loop-rest
invariant-loop-rest l = (done : List Class) × (done ++ l.rest ≡ l.classes) × HaveDifferentNames done × HasNames l.names done

abbrev pub decreases-loop-rest : goal.decreases-loop-rest
decreases-loop-rest l = length l.rest
