use Rattle.std.proofs.Common.{◌≡◌, take, ℕ, List, Some, slice_get, true, Bool}
use Rattle.kb_chain.specs.Literal.{Literal, has}
use Rattle.kb_chain.specs.Propagation.{IsClosed, Includes}
use Rattle.kb_chain.specs.Index.{IsFrontOf, IsSettled, has_number}
use Rattle.kb_chain.proofs.propagation.visit.Given as goal

abbrev pub invariant-loop-number : goal.invariant-loop-number
invariant-loop-number l = record {
  places : l.trail.places ≡ l.fn.trail.places;
  extended : IsFrontOf l.fn.trail.literals l.trail.literals;
  settled : (k : ℕ) (clause : List Literal) → has_number (take l.number-index l.number-items) k ≡ true → slice_get l.store.clauses k ≡ Some clause
      → IsSettled (has l.fn.trail.literals) (has l.trail.literals) clause;
  least : (set : Literal → Bool) → IsClosed l.store.clauses set → Includes set l.fn.trail.literals → Includes set l.trail.literals;
}
