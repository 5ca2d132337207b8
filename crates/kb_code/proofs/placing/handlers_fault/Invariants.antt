use Rattle.std.proofs.Common.{◌≡◌, ◌+◌, length}
use Rattle.kb_code.specs.Answers.{handlers_fault}
use Rattle.kb_code.specs.Starts.{starts_in}
use Rattle.kb_code.proofs.placing.handlers_fault.Given as goal

abbrev pub invariant-loop-rest : goal.invariant-loop-rest
invariant-loop-rest l =
    (handlers_fault (starts_in l.table) (length l.table) l.number l.rest ≡ handlers_fault (starts_in l.table) (length l.table) 0 l.handlers)
    × (l.number + length l.rest ≡ length l.handlers)

abbrev pub decreases-loop-rest : goal.decreases-loop-rest
decreases-loop-rest l = length l.rest
