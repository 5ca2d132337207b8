use Rattle.std.proofs.Common.{◌↔◌, length}
use Rattle.std.specs.List.{AllByRecursion}
use Rattle.kb_semantics.specs.Inputs.{IsInputObject}
use Rattle.kb_fits.proofs.fits.are_input_objects.Given as goal

abbrev pub invariant-loop-rest : goal.invariant-loop-rest
invariant-loop-rest l = AllByRecursion (IsInputObject l.world l.heap) l.rest ↔ AllByRecursion (IsInputObject l.world l.heap) l.objects

abbrev pub decreases-loop-rest : goal.decreases-loop-rest
decreases-loop-rest l = length l.rest
