use Rattle.std.proofs.Common.{◌≡◌, ◌<◌, ℕ, true, Some, slice_get}
use Rattle.kb_chain.specs.Index.{has_number}
use Rattle.kb_sat.proofs.analysis.cited_numbers.Given as goal

abbrev pub invariant-loop-position : goal.invariant-loop-position
invariant-loop-position l = record {
  conflict : has_number l.numbers.items l.number ≡ true;
  reasons : (p k : ℕ) → p < l.position → slice_get l.trail.reasons p ≡ Some (Some k) → has_number l.numbers.items k ≡ true;
}
