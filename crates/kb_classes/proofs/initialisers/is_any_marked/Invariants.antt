use Rattle.std.proofs.Common.{◌≡◌, length}
use Rattle.std.specs.List.{list_any}
use Rattle.kb_classes.specs.Initialisers.{is_marked}
use Rattle.kb_classes.proofs.initialisers.is_any_marked.Given as goal

abbrev pub invariant-loop-rest : goal.invariant-loop-rest
invariant-loop-rest l = list_any (is_marked l.marks) l.rest ≡ list_any (is_marked l.marks) l.numbers

abbrev pub decreases-loop-rest : goal.decreases-loop-rest
decreases-loop-rest l = length l.rest
