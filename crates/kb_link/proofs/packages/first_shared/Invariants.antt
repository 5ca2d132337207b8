use Rattle.std.proofs.Common.{take}
use Rattle.kb_classes.specs.Rules.{IsNoneSuch}
use Rattle.kb_link.specs.Sharing.{IsShared}
use Rattle.kb_link.proofs.packages.first_shared.Given as goal

abbrev pub invariant-loop-place : goal.invariant-loop-place
invariant-loop-place l = IsNoneSuch (IsShared l.classes l.above) (take l.place l.methods)
