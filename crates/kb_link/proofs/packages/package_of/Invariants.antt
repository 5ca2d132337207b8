use Rattle.std.proofs.Common.{◌≡◌, ◌-◌, take, length}
use Rattle.kb_classes.specs.Split.{package_of}
use Rattle.kb_link.proofs.packages.package_of.Given as goal

abbrev pub invariant-loop-back : goal.invariant-loop-back
invariant-loop-back l = package_of (take (length l.name - l.back) l.name) ≡ package_of l.name
