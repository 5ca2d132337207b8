use Rattle.std.proofs.Common.{◌≡◌, take, Bool, []}
use Rattle.kb_chain.specs.Literal.{Literal}
use Rattle.kb_chain.specs.Propagation.{IsClosed, Includes}
use Rattle.kb_chain.specs.Index.{AreSettled}
use Rattle.kb_chain.proofs.freshness.begin.Given as goal

abbrev pub invariant-loop-clause : goal.invariant-loop-clause
invariant-loop-clause l = record {
  places : l.trail.places ≡ l.fn.trail.places;
  settled : AreSettled (take l.clause-index l.clause-items) [] l.trail.literals;
  least : (set : Literal → Bool) → IsClosed l.store.clauses set → Includes set l.trail.literals;
}
