use Rattle.std.proofs.Common.{◌≡◌, take, true}
use Rattle.kb_chain.specs.Literal.{Literal, has}
use Rattle.kb_chain.specs.Propagation.{Misses}
use Rattle.kb_chain.proofs.freshness.is_new.Given as goal

abbrev pub invariant-loop-literal : goal.invariant-loop-literal
invariant-loop-literal l = record {
  places : l.trail.places ≡ l.fn.trail.places;
  root : l.trail.literals ≡ l.fn.trail.literals;
  reached : (m : Literal) → has (take l.literal-index l.literal-items) m ≡ true → Misses l.store.clauses l.clause m → ⊥;
}
