use Rattle.std.proofs.Common.{◌-◌, ◌≤◌, take, length}
use Rattle.kb_chain.specs.Trail.{IsMarked}
use Rattle.kb_propagate.proofs.trail.unmark.Given as goal

abbrev pub invariant-loop-count : goal.invariant-loop-count
invariant-loop-count l = record {
  above : l.kept ≤ l.count;
  below : l.count ≤ length l.literals;
  marked : IsMarked l.marks (take l.count l.literals);
}

abbrev pub decreases-loop-count : goal.decreases-loop-count
decreases-loop-count l = l.count - l.kept
