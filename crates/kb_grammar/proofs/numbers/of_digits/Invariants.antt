use Rattle.std.proofs.Common.{◌≡◌, length}
use Rattle.kb_grammar.specs.Numbers.{with_digits}
use Rattle.kb_grammar.proofs.numbers.of_digits.Given as goal

abbrev pub invariant-loop-rest : goal.invariant-loop-rest
invariant-loop-rest l = with_digits l.limit l.number l.rest ≡ with_digits l.limit 0 l.digits

abbrev pub decreases-loop-rest : goal.decreases-loop-rest
decreases-loop-rest l = length l.rest
