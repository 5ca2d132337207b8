use Rattle.std.proofs.Common.{◌-◌, ◌≤◌, length}
use Rattle.kb_propagate.specs.Trail.{level_start}
use Rattle.kb_heuristics.proofs.ranks.levels_of.Given as goal

abbrev pub invariant-loop-literal : goal.invariant-loop-literal
invariant-loop-literal l = l.start ≤ level_start l.trail.starts (length l.trail.starts - 1)
