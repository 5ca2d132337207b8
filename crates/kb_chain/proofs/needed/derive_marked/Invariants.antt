use Rattle.std.proofs.Common.{◌≡◌, ◌+◌, ◌*◌, List, Some, length, []}
use Rattle.kb_chain.specs.Literal.{Literal}
use Rattle.kb_chain.specs.Chains.{derived}
use Rattle.kb_chain.proofs.NeededLaws.{HasKept, LeavesEmpty}
use Rattle.kb_chain.proofs.needed.derive_marked.Given as goal

abbrev pub invariant-loop-i : goal.invariant-loop-i
invariant-loop-i l = record {
  vars : l.store.vars ≡ l.fn.formula.vars;
  places : l.working.places ≡ 2 * l.fn.formula.vars + 2;
  empty : l.working.clause ≡ [];
  count : length l.store.clauses ≡ length l.fn.formula.clauses + l.i;
  kept_same : (all : List (List Literal)) → derived l.fn.formula.clauses l.entries ≡ Some all
      → HasKept (length l.fn.formula.clauses) l.needed all l.store.clauses;
  skipped : LeavesEmpty (length l.fn.formula.clauses) l.needed l.i l.store.clauses;
}
