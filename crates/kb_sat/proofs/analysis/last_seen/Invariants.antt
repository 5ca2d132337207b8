use Rattle.std.proofs.Common.{◌≡◌, ◌<◌, ◌≤◌, slice_get, Some, false, ℕ}
use Rattle.kb_chain.specs.Literal.{Literal}
use Rattle.kb_sat.specs.Analysis.{is_seen}
use Rattle.kb_sat.proofs.analysis.last_seen.Given as goal

abbrev pub invariant-loop-position : goal.invariant-loop-position
invariant-loop-position l = record {
  below : l.position ≤ l.end;
  unseen : (q : ℕ) (m : Literal) → l.position ≤ q → q < l.end → slice_get l.literals q ≡ Some m → is_seen l.seen m.variable ≡ false;
}

abbrev pub decreases-loop-position : goal.decreases-loop-position
decreases-loop-position l = l.position
