use Rattle.std.proofs.Common.{◌≡◌, ◌+◌, ◌≤◌, ◌==◌, ℕ, true, [], length, Some, slice_get}
use Rattle.std.specs.List.{list_any}
use Rattle.kb_sat.specs.Analysis.{IsReached}
use Rattle.kb_sat.proofs.analysis.resolve_all.Given as goal

abbrev pub invariant-loop-position : goal.invariant-loop-position
invariant-loop-position l = record {
  table : length l.seen.items ≡ l.fn.trail.vars + 1;
  inside : l.end ≤ length l.fn.trail.literals;
  reached : IsReached l.fn.clauses.clauses l.number l.steps.items l.fn.trail.literals 0 l.end l.seen.items [];
  cited : (k : ℕ) → list_any (λ (s : ℕ × ℕ). s.1 == k) l.steps.items ≡ true → (p : ℕ) × (slice_get l.fn.trail.reasons p ≡ Some (Some k));
}

abbrev pub decreases-loop-position : goal.decreases-loop-position
decreases-loop-position l = l.end
