use Rattle.std.proofs.Common.{◌≡◌, length}
use Rattle.std.specs.List.{list_any}
use Rattle.kb_classes.specs.Initialisers.{is_initialiser}
use Rattle.kb_classes.proofs.initialisers.has_initialiser_among.Given as goal

abbrev pub invariant-loop-rest : goal.invariant-loop-rest
invariant-loop-rest l = list_any is_initialiser l.rest ≡ list_any is_initialiser l.methods

abbrev pub decreases-loop-rest : goal.decreases-loop-rest
decreases-loop-rest l = length l.rest
