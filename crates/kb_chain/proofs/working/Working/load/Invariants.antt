use Rattle.std.proofs.Common.{◌≡◌, take}
use Rattle.kb_chain.specs.Literal.{Literal, has}
use Rattle.kb_chain.specs.Clause.{IsOrdered}
use Rattle.kb_chain.proofs.working.Working.load.Given as goal

abbrev pub invariant-loop-literal : goal.invariant-loop-literal
invariant-loop-literal l = record {
  places : l.self.places ≡ l.fn.self.places;
  ordered : IsOrdered l.self.clause;
  members : (m : Literal) → has l.self.clause m ≡ has (take l.literal-index l.literal-items) m;
}
