use Rattle.std.proofs.Common.{◌≡◌, take}
use Rattle.std.specs.Option.{option_to_list}
use Rattle.kb_chain.specs.Literal.{has}
use Rattle.kb_chain.specs.Index.{open_literals}
use Rattle.kb_chain.proofs.propagation.standing.Given as goal

abbrev pub invariant-loop-literal : goal.invariant-loop-literal
invariant-loop-literal l = option_to_list l.open ≡ open_literals (has l.trail.literals) (take l.literal-index l.literal-items)
