use Rattle.std.proofs.Common.{◌≡◌, map, take}
use Rattle.std.specs.List.{flat_map}
use Rattle.kb_classes.specs.Subtypes.{super_names, numbers_of}
use Rattle.kb_classes.specs.Rules.{IsNoneSuch, IsMissing}
use Rattle.kb_link.proofs.direct.direct_supers.Given as goal

abbrev pub invariant-loop-class : goal.invariant-loop-class
invariant-loop-class l =
    (l.direct.items ≡ map (λ class. numbers_of l.fn.classes (super_names class)) (take l.class-index l.class-items))
    × IsNoneSuch (IsMissing l.fn.classes) (flat_map super_names (take l.class-index l.class-items))
