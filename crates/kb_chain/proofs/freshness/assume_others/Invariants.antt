use Rattle.std.proofs.Common.{◌≡◌, take, ◌||◌, map}
use Rattle.kb_chain.specs.Literal.{Literal, has, negated}
use Rattle.kb_chain.specs.Propagation.{others}
use Rattle.kb_chain.specs.Index.{IsFrontOf}
use Rattle.kb_chain.proofs.freshness.assume_others.Given as goal

abbrev pub invariant-loop-other : goal.invariant-loop-other
invariant-loop-other l = record {
  places : l.trail.places ≡ l.fn.trail.places;
  extended : IsFrontOf l.fn.trail.literals l.trail.literals;
  members : (m : Literal) → has l.trail.literals m ≡ (has l.fn.trail.literals m || has (map negated (others l.literal (take l.other-index l.other-items))) m);
}
