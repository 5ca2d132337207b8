use Rattle.std.proofs.Common.{◌↔◌, length, map}
use Rattle.kb_semantics.specs.Values.{AreValuesOf}
use Rattle.kb_fits.proofs.fits.are_values_of.Given as goal

abbrev pub invariant-loop-left : goal.invariant-loop-left
invariant-loop-left g l = AreValuesOf l.world l.heap (map g.P.Typed.kind l.left) l.rest ↔ AreValuesOf l.world l.heap (map g.P.Typed.kind l.places) l.values

abbrev pub decreases-loop-left : goal.decreases-loop-left
decreases-loop-left g l = length l.left
