use Rattle.std.proofs.Common.{◌↔◌, length}
use Rattle.std.specs.List.{AllByRecursion}
use Rattle.kb_semantics.specs.Values.{IsValueOf}
use Rattle.kb_fits.proofs.fits.are_all_of.Given as goal

abbrev pub invariant-loop-rest : goal.invariant-loop-rest
invariant-loop-rest l = AllByRecursion (IsValueOf l.world l.heap l.component) l.rest ↔ AllByRecursion (IsValueOf l.world l.heap l.component) l.values

abbrev pub decreases-loop-rest : goal.decreases-loop-rest
decreases-loop-rest l = length l.rest
