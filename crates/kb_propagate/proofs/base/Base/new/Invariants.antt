use Rattle.std.proofs.Common.{◌≡◌, ℕ, List, map, take, Some, slice_get}
use Rattle.kb_chain.specs.Literal.{Literal}
use Rattle.kb_chain.specs.Clause.{IsOrdered}
use Rattle.kb_propagate.specs.Rows.{awake_clause}
use Rattle.kb_propagate.proofs.base.Base.new.Given as goal

abbrev pub invariant-loop-clause : goal.invariant-loop-clause
invariant-loop-clause l = record {
  stored : l.clauses ≡ map awake_clause (take l.clause-index l.clause-items);
  ordered : (k : ℕ) (row : List Literal) → slice_get (take l.clause-index l.clause-items) k ≡ Some row → IsOrdered row;
}
