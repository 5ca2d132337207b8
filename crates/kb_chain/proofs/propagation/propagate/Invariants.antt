use Rattle.std.proofs.Common.{◌≡◌, ◌≤◌, ◌-◌, take, Bool, length}
use Rattle.kb_chain.specs.Literal.{Literal}
use Rattle.kb_chain.specs.Propagation.{IsClosed, Includes}
use Rattle.kb_chain.specs.Index.{IsFrontOf, AreSettled}
use Rattle.kb_chain.proofs.propagation.propagate.Given as goal

abbrev pub invariant-loop-next : goal.invariant-loop-next
invariant-loop-next l = record {
  places : l.trail.places ≡ l.fn.trail.places;
  inside : l.next ≤ length l.trail.literals;
  extended : IsFrontOf l.fn.trail.literals l.trail.literals;
  settled : AreSettled l.store.clauses (take l.next l.trail.literals) l.trail.literals;
  least : (set : Literal → Bool) → IsClosed l.store.clauses set → Includes set l.fn.trail.literals → Includes set l.trail.literals;
}

abbrev pub decreases-loop-next : goal.decreases-loop-next
decreases-loop-next l = l.trail.places - l.next
