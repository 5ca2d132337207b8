use Rattle.std.proofs.Common.{◌≡◌, take, not, ◌&&◌}
use Rattle.kb_chain.specs.Literal.{Literal, has}
use Rattle.kb_chain.specs.Working.{marked}
use Rattle.kb_chain.proofs.marks.unmark.Given as goal

abbrev pub invariant-loop-literal : goal.invariant-loop-literal
invariant-loop-literal l = (m : Literal) → marked l.marks m ≡ (marked l.fn.marks m && not (has (take l.literal-index l.literals) m))
