use Rattle.std.proofs.Common.{◌≡◌, ℕ, ◌<◌, ◌≤◌, Some, slice_get, true, false}
use Rattle.kb_chain.specs.Literal.{Literal, has, negated, same}
use Rattle.kb_propagate.proofs.propagation.open_place.Given as goal

abbrev pub invariant-loop-place : goal.invariant-loop-place
invariant-loop-place l =
    (k : ℕ) (m : Literal) → 2 ≤ k → k < l.place → slice_get l.row k ≡ Some m → same m l.fn.other ≡ false → has l.trail.literals (negated m) ≡ true
