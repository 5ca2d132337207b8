use Rattle.std.proofs.Common.{◌≡◌, ◌+◌, ◌*◌, take, Some, [], length}
use Rattle.std.specs.Bool.{OnTrue, OnFalse}
use Rattle.kb_chain.specs.Chains.{derived}
use Rattle.kb_chain.specs.Propagation.{IsFresh}
use Rattle.kb_chain.specs.Index.{IsIndexed, IsRoot, IsRefuted}
use Rattle.kb_chain.proofs.freshness.check_entries.Given as goal

abbrev pub invariant-loop-i : goal.invariant-loop-i
invariant-loop-i l = record {
  vars : l.store.vars ≡ l.fn.formula.vars;
  count : length l.store.clauses ≡ l.first + l.i;
  places : l.working.places ≡ 2 * l.fn.formula.vars + 2;
  empty : l.working.clause ≡ [];
  trail : l.trail.places ≡ 2 * l.fn.formula.vars + 2;
  rows : length l.index.occurrences.items ≡ 2 * l.fn.formula.vars + 2;
  indexed : IsIndexed l.store.clauses l.index;
  root : OnTrue l.quiet (IsRoot l.store.clauses l.trail.literals);
  refuted : OnFalse l.quiet (IsRefuted l.store.clauses l.trail.literals);
  derived : derived l.fn.formula.clauses (take l.i l.fn.entries) ≡ Some l.store.clauses;
  fresh : IsFresh l.fn.formula.clauses (take l.i l.fn.entries);
}
