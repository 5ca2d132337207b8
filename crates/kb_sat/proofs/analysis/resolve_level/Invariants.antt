use Rattle.std.proofs.Common.{◌≡◌, ◌<◌, List, [], length, ℕ}
use Rattle.kb_chain.specs.Literal.{Literal}
use Rattle.kb_propagate.specs.Store.{IsJustified}
use Rattle.kb_sat.specs.Analysis.{AreMarked, IsReached}
use Rattle.kb_propagate.specs.Rows.{rows_of}
use Rattle.kb_sat.proofs.analysis.resolve_level.Given as goal

abbrev pub invariant-loop-position : goal.invariant-loop-position
invariant-loop-position l = record {
  marked : AreMarked l.fn.trail.vars l.fn.trail.literals l.levels l.end l.marks;
  pending : 0 < l.marks.pending;
  reached : (all : List (List Literal)) (number : ℕ) → IsJustified all (rows_of l.fn.clauses) l.fn.trail
      → IsReached all number l.fn.steps.items l.fn.trail.literals l.levels.zero (length l.fn.trail.literals) l.fn.marks.seen.items []
      → IsReached all number l.steps.items l.fn.trail.literals l.levels.zero l.end l.marks.seen.items [];
  order : l.order ≡ l.fn.order;
}

abbrev pub decreases-loop-position : goal.decreases-loop-position
decreases-loop-position l = l.end
