use Rattle.std.proofs.Common.{◌≡◌, true}
use Rattle.std.specs.Prelude.{IfSome}
use Rattle.kb_chain.specs.Literal.{has}
use Rattle.kb_chain.proofs.freshness.likely_missed.Given as goal

abbrev pub invariant-loop-literal : goal.invariant-loop-literal
invariant-loop-literal l = IfSome l.likely (λ m. has l.clause m ≡ true)
