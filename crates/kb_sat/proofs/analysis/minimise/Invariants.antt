use Rattle.std.proofs.Common.{◌≤◌, List, length, ℕ}
use Rattle.std.specs.Option.{IfSome}
use Rattle.std.specs.List.Sorted.{IsNonDecreasingBy}
use Rattle.kb_chain.specs.Literal.{Literal}
use Rattle.kb_propagate.specs.Store.{IsJustified}
use Rattle.kb_sat.specs.Analysis.{AreMarked, IsReached, ArePut}
use Rattle.kb_propagate.specs.Rows.{rows_of}
use Rattle.kb_sat.proofs.analysis.minimise.Given as goal

abbrev pub invariant-loop-position : goal.invariant-loop-position
invariant-loop-position l = record {
  rising : IsNonDecreasingBy (λ p. p) l.marks.lower.items;
  put : ArePut l.fn.trail.literals l.levels l.fn.row.items l.row.items l.highest;
  bound : (end : ℕ)
      × (l.levels.zero ≤ end) × (end ≤ l.levels.start) × IfSome l.highest (λ p. end ≤ p)
      × AreMarked l.fn.trail.vars l.fn.trail.literals l.levels end l.marks
      × ((all : List (List Literal)) (number : ℕ) → IsJustified all (rows_of l.fn.clauses) l.fn.trail
      → IsReached all number l.fn.steps.items l.fn.trail.literals l.levels.zero l.levels.start l.fn.marks.seen.items l.fn.row.items
      → IsReached all number l.steps.items l.fn.trail.literals l.levels.zero end l.marks.seen.items l.row.items);
}

abbrev pub decreases-loop-position : goal.decreases-loop-position
decreases-loop-position l = length l.marks.lower.items
