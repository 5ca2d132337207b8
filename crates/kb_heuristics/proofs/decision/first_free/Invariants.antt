use Rattle.std.proofs.Common.{ℕ, ◌<◌, ◌≤◌}
use Rattle.kb_propagate.specs.Base.{IsValued}
use Rattle.kb_heuristics.proofs.decision.first_free.Given as goal

abbrev pub invariant-loop-before : goal.invariant-loop-before
invariant-loop-before l = (v : ℕ) → 0 < v → v ≤ l.before → IsValued l.trail v
