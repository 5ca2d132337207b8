use Rattle.std.proofs.Common.{◌≡◌, take, ℕ}
use Rattle.kb_sat.specs.Analysis.{AreFalseBefore, AreMarked, MarksOthers}
use Rattle.kb_sat.proofs.analysis.Marks.mark_others.Given as goal

abbrev pub invariant-loop-literal : goal.invariant-loop-literal
invariant-loop-literal l = record {
  marked : (end : ℕ) → AreMarked l.fn.trail.vars l.fn.trail.literals l.levels end l.fn.self → AreFalseBefore l.fn.trail.literals end l.pivot l.fn.row
      → AreMarked l.fn.trail.vars l.fn.trail.literals l.levels end l.self;
  marks : MarksOthers l.fn.trail.literals l.levels l.pivot (take l.literal-index l.fn.row) l.fn.self.seen.items l.self.seen.items;
  order : l.order ≡ l.fn.order;
}
