use Rattle.std.proofs.Common.{take, ◌++◌, List}
use Rattle.kb_chain.specs.Literal.{Literal, has}
use Rattle.kb_eliminate.specs.Resolvents.{IsMerged}
use Rattle.kb_eliminate.proofs.resolvents.push_others.Given as goal

abbrev pub invariant-loop-literal : goal.invariant-loop-literal
invariant-loop-literal l =
    (all : List Literal) → IsMerged (has l.trail.literals) l.variable all l.fn.row.items
    → IsMerged (has l.trail.literals) l.variable (all ++ take l.literal-index l.literals) l.row.items
