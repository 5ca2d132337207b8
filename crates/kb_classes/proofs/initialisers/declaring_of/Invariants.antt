use Rattle.std.proofs.Common.{◌≡◌, map, take}
use Rattle.kb_classes.specs.Initialisers.{declares_initialiser}
use Rattle.kb_classes.proofs.initialisers.declaring_of.Given as goal

abbrev pub invariant-loop-class : goal.invariant-loop-class
invariant-loop-class l = l.own.items ≡ map declares_initialiser (take l.class-index l.classes)
