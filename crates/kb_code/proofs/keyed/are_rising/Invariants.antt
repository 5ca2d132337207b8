use Rattle.std.proofs.Common.{◌≡◌, length}
use Rattle.kb_code.specs.Switches.{are_above, are_rising}
use Rattle.kb_code.proofs.keyed.are_rising.Given as goal

abbrev pub invariant-loop-rest : goal.invariant-loop-rest
invariant-loop-rest g l = are_above g.T.Keyed.key_of l.low l.rest ≡ are_rising g.T.Keyed.key_of l.items

abbrev pub decreases-loop-rest : goal.decreases-loop-rest
decreases-loop-rest g l = length l.rest
