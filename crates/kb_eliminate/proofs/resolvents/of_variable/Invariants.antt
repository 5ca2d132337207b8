use Rattle.std.proofs.Common.{◌≡◌, ◌==◌, take, true, false}
use Rattle.kb_chain.specs.Literal.{Literal, has}
use Rattle.kb_eliminate.proofs.resolvents.of_variable.Given as goal

abbrev pub invariant-loop-literal : goal.invariant-loop-literal
invariant-loop-literal l = (m : Literal) → has (take l.literal-index l.literals) m ≡ true → (m.variable == l.variable) ≡ false
