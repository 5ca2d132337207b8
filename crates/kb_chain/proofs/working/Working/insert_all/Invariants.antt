use Rattle.std.proofs.Common.{◌≡◌, take, not, ◌&&◌, ◌||◌, ◌==◌}
use Rattle.kb_chain.specs.Literal.{Literal, has}
use Rattle.kb_chain.specs.Clause.{IsOrdered}
use Rattle.kb_chain.proofs.working.Working.insert_all.Given as goal

abbrev pub invariant-loop-literal : goal.invariant-loop-literal
invariant-loop-literal l = record {
  places : l.self.places ≡ l.fn.self.places;
  ordered : IsOrdered l.fn.self.clause → IsOrdered l.self.clause;
  members : (m : Literal) → has l.self.clause m ≡ (has l.fn.self.clause m || (has (take l.literal-index l.literals) m && not (m.variable == l.pivot)));
}
