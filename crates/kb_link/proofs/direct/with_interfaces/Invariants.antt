use Rattle.std.proofs.Common.{◌≡◌, ◌++◌, take}
use Rattle.kb_classes.specs.Subtypes.{numbers_of}
use Rattle.kb_classes.specs.Rules.{IsNoneSuch, IsMissing}
use Rattle.kb_link.proofs.direct.with_interfaces.Given as goal

abbrev pub invariant-loop-place : goal.invariant-loop-place
invariant-loop-place l =
    (l.numbers ≡ l.fn.numbers ++ numbers_of l.fn.classes (take l.place l.fn.class.interfaces))
    × IsNoneSuch (IsMissing l.fn.classes) (take l.place l.fn.class.interfaces)
