use Rattle.std.proofs.Common.{◌≡◌, ◌+◌, ◌*◌, take, Some, true, false, []}
use Rattle.kb_chain.specs.Chains.{derived, Derives, IsRefutation}
use Rattle.kb_chain.proofs.refutation.check_refutation.Given as goal

abbrev pub invariant-loop-i : goal.invariant-loop-i
invariant-loop-i l = record {
  vars : l.store.vars ≡ l.fn.formula.vars;
  places : l.working.places ≡ 2 * l.fn.formula.vars + 2;
  empty : l.working.clause ≡ [];
  derived : derived l.fn.formula.clauses (take l.i l.entries) ≡ Some l.store.clauses;
  derives : Derives l.fn.formula.clauses (take l.i l.entries);
  yes : l.refuted ≡ true → IsRefutation l.fn.formula.clauses (take l.i l.entries);
  no : l.refuted ≡ false → IsRefutation l.fn.formula.clauses (take l.i l.entries) → ⊥;
}
