use Rattle.std.proofs.Common.{◌≡◌, take}
use Rattle.kb_chain.specs.Literal.{Literal, has}
use Rattle.kb_chain.specs.Clause.{IsOrdered}
use Rattle.kb_chain.proofs.clause.Clause.from_sorted.Given as goal

abbrev pub invariant-loop-literal : goal.invariant-loop-literal
invariant-loop-literal l = record {
  ordered : IsOrdered l.kept.items;
  same : (m : Literal) → has l.kept.items m ≡ has (take l.literal-index l.sorted) m;
}
