use Rattle.std.proofs.Common.{take}
use Rattle.kb_sat.specs.Analysis.{AreCovered}
use Rattle.kb_sat.proofs.analysis.adds_nothing.Given as goal

abbrev pub invariant-loop-literal : goal.invariant-loop-literal
invariant-loop-literal l = AreCovered l.fn.trail.literals l.levels.zero l.fn.marks.seen.items l.variable (take l.literal-index l.literal-items)
