use Rattle.std.proofs.Common.{take}
use Rattle.kb_classes.specs.Rules.{IsNoneSuch}
use Rattle.kb_classes.specs.Split.{IsSplit, placed_from}
use Rattle.kb_link.proofs.packages.check_packages.Given as goal

abbrev pub invariant-loop-number : goal.invariant-loop-number
invariant-loop-number l = IsNoneSuch (IsSplit l.classes l.chains) (placed_from 0 (take l.number l.classes))
