use Rattle.std.proofs.Common.{◌≡◌, take, length, ◌+◌, ◌*◌}
use Rattle.kb_chain.specs.Index.{IsIndexed}
use Rattle.kb_chain.proofs.freshness.index_of.Given as goal

abbrev pub invariant-loop-number : goal.invariant-loop-number
invariant-loop-number l = record {
  rows : length l.index.occurrences.items ≡ 2 * l.fn.formula.vars + 2;
  indexed : IsIndexed (take l.number l.fn.formula.clauses) l.index;
}
