use Rattle.std.proofs.Common.{◌<◌, ◌≤◌, ◌-◌, length}
use Rattle.kb_propagate.specs.Trail.{level_start}
use Rattle.kb_heuristics.proofs.ranks.level_of.Given as goal

abbrev pub invariant-loop-low : goal.invariant-loop-low
invariant-loop-low l = record {
  order : l.low ≤ l.high;
  inside : l.high < length l.fn.trail.starts;
  below : l.position < level_start l.fn.trail.starts l.high;
  above : 0 < l.low → level_start l.fn.trail.starts (l.low - 1) ≤ l.position;
}

abbrev pub decreases-loop-low : goal.decreases-loop-low
decreases-loop-low l = l.high - l.low
