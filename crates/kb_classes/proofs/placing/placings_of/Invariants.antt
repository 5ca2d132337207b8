use Rattle.std.proofs.Common.{take}
use Rattle.std.specs.List.{AllZip}
use Rattle.kb_classes.proofs.Placings.{IsTableAt}
use Rattle.kb_classes.proofs.placing.placings_of.Given as goal

abbrev pub invariant-loop-place : goal.invariant-loop-place
invariant-loop-place l = AllZip (IsTableAt l.classes) (take l.place-index l.places) l.tables.items
