use Rattle.std.proofs.Common.{take}
use Rattle.kb_propagate.specs.Rows.{IsNamed}
use Rattle.kb_propagate.proofs.clauses.named.Given as goal

abbrev pub invariant-loop-literal : goal.invariant-loop-literal
invariant-loop-literal l = IsNamed (take l.literal-index l.literals)
